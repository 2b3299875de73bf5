-- The counter mode undoes itself, a packet has 16 bytes more than its name, and opening undoes sealing.
-- Assumes nothing.
use mathlib.Core.Bool.{true}
use mathlib.Core.List.{List, ◌++◌, append_assoc}
use mathlib.Core.Path.{◌≡◌, refl, sym, ap, ap₂, ◌∙◌}
use Prim.Native.Nat.{ℕ, ◌+◌, ◌/◌, ◌%◌, ◌≤◌}
use native.Mathlib.Omega.{arith}
use lib.Bits.{bit_xor}
use lib.Dec.{leb}
use lib.ListN.{length, take, drop, get_or, length-append}
use lib.Seq.{take_at, drop_at, drop-drop}
use borrow.Author.Tests.{le-leb, leb-true}
use Rattle.std.specs.Prelude.{Some}
use Rattle.laws.proofs.Choice.{and_left}
use Rattle.laws.proofs.Filled.{length_tabulate, get_d_tabulate, tabulate_ext, tabulate_get_or}
use Rattle.laws.proofs.Xor.{xor_cancel}
use Rattle.laws.specs.Tabulate.{tabulate}
use Rattle.basics.specs.Bytes.{same}
use Rattle.basics.proofs.Laws.{same_refl}
use Rattle.names.specs.Name.{is_name, name_of}
use Rattle.names.specs.Utf8.{is_utf8}
use Rattle.additional_data.specs.CounterMode.{key_stream, counter_mode}
use Rattle.additional_data.specs.Packet.{tag, sealed, opened, tag_fits, nonce_in}
use Rattle.additional_data.specs.Promises.{CounterModeUndoes, SealedLength, OpeningUndoesSealing}
use Rattle.additional_data.proofs.Laws.{mixed, length_counter_mode, length_tag}

-- ---- the counter mode undoes itself

pub counter_mode_undoes : CounterModeUndoes
unfolding counter_mode
counter_mode_undoes key nonce text =
    let once : List ℕ = tabulate (length text) (mixed key nonce text) in
    let stream : ℕ → ℕ = λ j. get_or (key_stream key nonce (j / 16)) (j % 16) 0 in
    ap (λ (n : ℕ). tabulate n (mixed key nonce once)) (length_tabulate (length text) (mixed key nonce text))
    ∙ tabulate_ext (length text) (mixed key nonce once) (λ j. get_or text j 0)
    (λ j h. ap (λ (b : ℕ). bit_xor b (stream j)) (get_d_tabulate (length text) (mixed key nonce text) j 0 h)
    ∙ xor_cancel (get_or text j 0) (stream j))
    ∙ tabulate_get_or (length text) text 0 refl

-- ---- the parts of a packet

module _ (key nonce text : List ℕ) (eight : length nonce ≡ 8) where
  -- what the tag is made of
  abbrev signed : List ℕ
  signed = nonce ++ counter_mode key nonce text

  in_two : sealed key nonce text ≡ tag key signed ++ signed
  unfolding sealed
  in_two = append_assoc (tag key signed) nonce (counter_mode key nonce text)

  tag_of : take 8 (sealed key nonce text) ≡ tag key signed
  tag_of = ap (take 8) in_two ∙ take_at (tag key signed) signed 8 (length_tag key signed)

  signed_of : drop 8 (sealed key nonce text) ≡ signed
  signed_of = ap (drop 8) in_two ∙ drop_at (tag key signed) signed 8 (length_tag key signed)

  nonce-of : nonce_in (sealed key nonce text) ≡ nonce
  nonce-of = ap (take 8) signed_of ∙ take_at nonce (counter_mode key nonce text) 8 eight

  data_of : drop 16 (sealed key nonce text) ≡ counter_mode key nonce text
  data_of =
      sym (drop-drop 8 8 (sealed key nonce text)) ∙ ap (drop 8) signed_of
      ∙ drop_at nonce (counter_mode key nonce text) 8 eight

  size : length (sealed key nonce text) ≡ 16 + length text
  size =
      ap length in_two ∙ length-append (tag key signed) signed
      ∙ rw (length_tag key signed, length-append nonce (counter_mode key nonce text), eight, length_counter_mode key nonce text)
      (omega arith)

pub sealed_length : SealedLength
sealed_length = size

-- ---- opening undoes sealing

opened_good : (key packet text : List ℕ) → 16 ≤ length packet → length packet ≤ 80 → tag_fits key packet ≡ true
    → counter_mode key (nonce_in packet) (drop 16 packet) ≡ text → is_name text ≡ true
    → opened key packet ≡ Some (name_of text)
unfolding opened
opened_good key packet text low high fits undone name = rw (le-leb 16 (length packet) low, le-leb (length packet) 80 high, fits, undone, name)

pub name_short : (text : List ℕ) → is_name text ≡ true → length text ≤ 64
unfolding is_name
name_short text name = leb-true (length text) 64 (and_left (leb (length text) 64) (is_utf8 text) name)

pub opening_undoes_sealing : OpeningUndoesSealing
opening_undoes_sealing key nonce text eight name =
    let packet : List ℕ = sealed key nonce text in
    let fits : tag_fits key packet ≡ true =
    ap₂ same (tag_of key nonce text eight) (ap (tag key) (signed_of key nonce text eight)) ∙ same_refl
    (tag key (signed key nonce text eight))
    in
    let undone : counter_mode key (nonce_in packet) (drop 16 packet) ≡ text =
    ap₂ (counter_mode key) (nonce-of key nonce text eight) (data_of key nonce text eight) ∙ counter_mode_undoes key nonce text
    in
    opened_good key packet text (omega (arith, size key nonce text eight))
    (omega (arith, size key nonce text eight, name_short text name)) fits undone name
