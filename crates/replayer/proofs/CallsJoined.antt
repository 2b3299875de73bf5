-- Parts that are fed by calls are replayed as the joined recording: a call on a replay that was handed out is a step.
-- Assumes nothing.
use mathlib.Core.List.{List, [], ◌∷◌, ◌++◌, map, map-append}
use mathlib.Core.Path.{◌≡◌, refl, sym, ap, ◌∙◌}
use Prim.Native.Nat.{ℕ, zero, suc}
use lib.ListN.{length}
use Rattle.replay.proofs.Theorems.Parts.{stays_ready, start_ready, part_ready, parts_ready, parts_joined}
use Rattle.replay.specs.Parts.{start_stream, Ready, fed, ended}
use Rattle.replay.specs.Promises.{Lines, line_then, fed_within, fed_part, fed_parts, line_of}
use Rattle.replay.specs.declared.Line.{Line}
use Rattle.replay.specs.declared.parts.Ended.{Ended}
use Rattle.std.specs.Prelude.{Option, Some, None}
use Rattle.replay.specs.declared.parts.Stream.{Stream}
use Rattle.replayer.proofs.ReadsBack.{unpacked_back}
use Rattle.replayer.specs.Calls.{packed_stream, packed_line, packed_fed, fed_back, ended_back, fed_call, ended_call}
use Rattle.replayer.specs.Demands.{CallLines, call_then, calls_within, calls_fed, last_line, CallsJoined}
use Rattle.replayer.specs.declared.FpFed.{FpFed}
use Rattle.replayer.specs.declared.FpLine.{FpLine}

-- a call on a replay that was handed out
call_is : (s : Stream) → Ready s → (bs : List ℕ) (at : ℕ) → fed_call (packed_stream s) bs at ≡ fed_back (fed s bs at)
unfolding fed_call
call_is s r bs at = rw (unpacked_back s r)

end_is : (s : Stream) → Ready s → ended_call (packed_stream s) ≡ ended_back (ended s)
unfolding ended_call
end_is s r = rw (unpacked_back s r)

-- lines as C gets them
abbrev numbers : Lines → CallLines
numbers l = record { lines = map packed_line l.lines; next = packed_stream l.next }

then_is : (s : Stream) (p : Option Line) (at : ℕ) (later : Lines) → call_then (packed_fed s p at) (numbers later) ≡ numbers (line_then p s later)
then_is s None at later = refl
then_is s (Some l) at later = refl

within_is : (fuel : ℕ) (s : Stream) (bs : List ℕ) (at : ℕ) → Ready s
    → calls_within fuel (packed_stream s) bs at ≡ numbers (fed_within fuel s bs at)
unfolding calls_within fed_within
within_is zero s bs at r = refl
within_is (suc fuel) s bs at r =
    let f = fed s bs at in
    ap (λ (x : FpFed). call_then x (calls_within fuel x.next bs x.at)) (call_is s r bs at)
    ∙ ap (call_then (fed_back f)) (within_is fuel f.next bs f.at ((stays_ready s r).0 bs at))
    ∙ then_is f.next f.line f.at (fed_within fuel f.next bs f.at)

parts_are : (s : Stream) (ps : List (List ℕ)) → Ready s → calls_fed (packed_stream s) ps ≡ numbers (fed_parts s ps)
unfolding calls_fed fed_parts
parts_are s [] r = refl
parts_are s (p ∷ ps) r =
    let next = (fed_part s p).next in
    ap (λ (a : CallLines). record { lines = a.lines ++ (calls_fed a.next ps).lines; next = (calls_fed a.next ps).next }) (within_is (suc (length p)) s p 0 r)
    ∙ ap (λ (b : CallLines). record { lines = map packed_line (fed_part s p).lines ++ b.lines; next = b.next }) (parts_are next ps (part_ready s p r))
    ∙ (λ i. record {
      lines = sym (map-append packed_line (fed_part s p).lines (fed_parts next ps).lines) i;
      next = packed_stream (fed_parts next ps).next;
    })

last_is : (e : Ended) → last_line (ended_back e) ≡ map packed_line (line_of e.line)
last_is e = by-line e.line
  where
    by-line : (p : Option Line) → last_line (packed_fed e.next p 0) ≡ map packed_line (line_of p)
    by-line None = refl
    by-line (Some l) = refl

pub calls_joined : CallsJoined
calls_joined parts =
    let all = fed_parts start_stream parts in
    let joined = parts_joined parts in
    let calls = parts_are start_stream parts start_ready in
    let end = end_is all.next (parts_ready start_stream parts start_ready) in
    record {
      printed = ap (λ (a : CallLines). a.lines ++ last_line (ended_call a.next)) calls
          ∙ ap (λ (x : FpFed). map packed_line all.lines ++ last_line x) end
          ∙ ap (λ (ls : List FpLine). map packed_line all.lines ++ ls) (last_is (ended all.next))
          ∙ sym (map-append packed_line all.lines (line_of (ended all.next).line))
          ∙ ap (λ (ls : List Line). map packed_line ls) joined.printed;
      final = ap (λ (a : CallLines). (ended_call a.next).next) calls ∙ ap (λ (x : FpFed). x.next) end ∙ ap packed_stream joined.final;
      cut = ap (λ (a : CallLines). a.next) calls ∙ ap packed_stream joined.cut;
    }
