-- The space is put, and the number right behind it; it has at most 20 digits.
use native.Mathlib.Omega.{arith}
use Rattle.replay_text.specs.Text.{decimal, space}
use Rattle.replay_text.proofs.Laws.{put_first, put_more}
use Rattle.replay_text.proofs.put_behind_space.Goals as goal

pub returns : goal.returns
returns c =
    let a = c.args in
    let to-gap = put_first a.out.now a.at space c.put-number_at.ensures.value c.put-number_at.ensures.out_after in
    let whole = put_more (omega (arith, c.requires)) to-gap (decimal a.number) c.put_number.ensures.value.0 c.put_number.ensures.out_after in
    record {
      value = (whole.end_is, omega (arith, c.put-number_at.ensures.value, c.put_number.ensures.value.1));
      out_after = whole.left_is;
    }
