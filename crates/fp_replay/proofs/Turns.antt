-- A step of the loop over a part: what is to come from there on stays the same, up to the end of the part.
-- Assumes nothing.
use mathlib.Core.List.{List, []}
use mathlib.Core.Path.{◌≡◌, refl, sym, ap, subst, ◌∙◌}
use Prim.Native.Nat.{ℕ, ◌-◌, ◌<◌, ◌≤◌}
use native.Mathlib.Omega.{arith}
use lib.ListN.{length}
use lib.Seq.{length-paste}
use Rattle.replay.proofs.Theorems.Parts.{empty_part_keeps, to_come, line_and, come_all, come_step, come_end, step_reads_on, stays_ready, part_ready, start_ready}
use Rattle.replay.specs.Parts.{start_stream, Ready, fed, ended}
use Rattle.replay.specs.Promises.{Lines, fed_part, line_of}
use Rattle.replay.specs.declared.Line.{Line}
use Rattle.replay.specs.declared.parts.Ended.{Ended}
use Rattle.replay.specs.declared.parts.Fed.{Fed}
use Rattle.std.specs.Prelude.{Option, Some, None}
use Rattle.replay.specs.declared.parts.Stream.{Stream}
use Rattle.replay_text.specs.Text.{text}
use Rattle.fp_replay.specs.Reading.{Output, unused, line_place, printed, printed_all, State, state, drained, printed_of, turned, turned_output, finished}
use Rattle.fp_replay.specs.declared.part.Turn.{Turn}

-- ---- the loop

-- the state behind what is to come
abbrev comes : Output → Lines → State
comes o l = record { stream = l.next; output = printed_all o l.lines }

comes_on : (o : Output) (p : Option Line) (l : Lines) → comes o (line_and p l) ≡ comes (printed_of o p) l
unfolding printed_all
comes_on o None l = refl
comes_on o (Some x) l = refl

-- a turn of the loop that began with s₀ and out₀: from here on comes what was to come from there
pub record Ahead (bs out₀ : List ℕ) (s₀ : Stream) (out : List ℕ) (t : Turn) : Type 0 where
  pub ready : Ready t.stream
  pub within : t.at ≤ length bs
  pub room : t.filled ≤ length out
  pub long : length out ≡ length out₀
  pub same : comes (record { bytes = out; filled = t.filled }) (to_come t.stream bs t.at) ≡ drained s₀ (unused out₀) bs

pub ahead_first : (bs out₀ : List ℕ) (s₀ : Stream) → Ready s₀ → Ahead bs out₀ s₀ out₀ (record { stream = s₀; at = 0; filled = 0 })
unfolding drained
ahead_first bs out₀ s₀ r =
    record {
      ready = r;
      within = omega arith;
      room = omega arith;
      long = refl;
      same = ap (comes (unused out₀)) (come_all s₀ bs);
    }

-- a line leaves the buffer as long as it was
output_long : (o : Output) (p : Option Line) → (printed_of o p).filled ≤ length o.bytes → length (printed_of o p).bytes ≡ length o.bytes
output_long o None h = refl
output_long o (Some l) h =
    length-paste o.bytes (line_place (length o.bytes) o.filled) (text l) (length (text l)) h (omega arith)

module _ (bs out₀ : List ℕ) (s₀ : Stream) (out : List ℕ) (t : Turn) (a : Ahead bs out₀ s₀ out t) (h : t.at < length bs) where
  abbrev f : Fed
  f = fed t.stream bs t.at

  abbrev o : Output
  o = record { bytes = out; filled = t.filled }

  turned-ahead : (turned t f out).filled ≤ length out → Ahead bs out₀ s₀ (turned_output t f out) (turned t f out)
  turned-ahead k =
      let kept = output_long o f.line k in
      record {
        ready = (stays_ready t.stream a.ready).0 bs t.at;
        within = (step_reads_on t.stream bs t.at a.ready h).1;
        room = omega (arith, kept, k);
        long = kept ∙ a.long;
        same = sym (comes_on o f.line (to_come f.next bs f.at))
            ∙ ap (comes o) (sym (come_step t.stream bs t.at a.ready h))
            ∙ a.same;
      }

  module _ {r : Turn} {out' : List ℕ} (p : r ≡ turned t f out) (q : out' ≡ turned_output t f out) (k : r.filled ≤ length out) where
    pub ahead_again : Ahead bs out₀ s₀ out' r
    ahead_again =
        let room : (turned t f out).filled ≤ length out = subst (λ (x : Turn). x.filled ≤ length out) p k in
        subst (λ (x : Turn). Ahead bs out₀ s₀ out' x) (sym p)
        (subst (λ (l : List ℕ). Ahead bs out₀ s₀ l (turned t f out)) (sym q) (turned-ahead room))

    pub fewer_again : length bs - r.at < length bs - t.at
    fewer_again =
        let moved = step_reads_on t.stream bs t.at a.ready h in
        omega (arith, h, ap (λ (x : Turn). x.at) p, moved.0)

-- at the end of the part nothing is to come
pub all_drained : (bs out₀ : List ℕ) (s₀ : Stream) (out : List ℕ) (t : Turn) → Ahead bs out₀ s₀ out t → length bs ≤ t.at
    → state t.stream out t.filled ≡ drained s₀ (unused out₀) bs
unfolding printed_all
all_drained bs out₀ s₀ out t a h =
    sym (ap (comes (record { bytes = out; filled = t.filled })) (come_end t.stream bs t.at a.ready h)) ∙ a.same

-- the stream that a part leaves, and that it is ready
pub drained_stream : (s₀ : Stream) (o : Output) (bs : List ℕ) {x : State} → x ≡ drained s₀ o bs → x.stream ≡ (fed_part s₀ bs).next
unfolding drained
drained_stream s₀ o bs e = ap (λ (x : State). x.stream) e

pub fed_ready : (s₀ : Stream) (bs : List ℕ) {s : Stream} → Ready s₀ → s ≡ (fed_part s₀ bs).next → Ready s
fed_ready s₀ bs r e = subst Ready (sym e) (part_ready s₀ bs r)

-- a read that gave nothing keeps the stream and the output buffer
pub nothing_fed : (s : Stream) (out : List ℕ) {part : List ℕ} → Ready s → part ≡ []
    → (s ≡ (fed_part s part).next) × (out ≡ (drained s (unused out) part).output.bytes)
unfolding drained printed_all
nothing_fed s out r e =
    let kept : fed_part s [] ≡ record { lines = []; next = s } = empty_part_keeps s r in
    rw e (sym (ap (λ (l : Lines). l.next) kept), sym (ap (λ (l : Lines). (printed_all (unused out) l.lines).bytes) kept))

-- nothing was read yet
pub first_ready : {s : Stream} → s ≡ start_stream → Ready s
first_ready e = subst Ready (sym e) start_ready

-- ---- the end

pub finished_none : (s : Stream) (out : List ℕ) {e : Ended} → e ≡ ended s → e.line ≡ None → out ≡ (finished s (unused out)).bytes
unfolding printed_all
finished_none s out p q =
    ap (λ (l : Option Line). (printed_all (unused out) (line_of l)).bytes) (sym q ∙ ap (λ (x : Ended). x.line) p)

pub finished_line : (s : Stream) (out : List ℕ) {e : Ended} {l : Line} {x : Output} → e ≡ ended s → e.line ≡ Some l → x ≡ printed (unused out) l
    → x.bytes ≡ (finished s (unused out)).bytes
unfolding printed_all
finished_line s out {l = l} p q r =
    ap (λ (y : Output). y.bytes) r
    ∙ ap (λ (m : Option Line). (printed_all (unused out) (line_of m)).bytes) (sym q ∙ ap (λ (y : Ended). y.line) p)
