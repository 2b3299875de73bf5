-- A recording that arrives in parts is replayed as the joined one, wherever it was divided.
-- Assumes nothing.
use Rattle.std.proofs.Common.{◌≡◌, ℕ, zero, suc, ◌+◌, ◌-◌, ◌<◌, ◌≤◌, Bool, true, false, not, eqb, ltb, List, [], ◌∷◌, ◌++◌, map, length, drop, sym, refl, ap, ◌∙◌, subst, inl, inr, append_assoc, append-nil, not-suc-le-zero, arith, length-append, length-drop, drop_of_length-le, length-take-le, drop-drop, ltb-false, ltb-true, ne_eqb}
use mathlib.Core.List.{map-append}
use lib.Seq.{drop-append-add}
use Rattle.provider.specs.Demands.Validity.{Valid}
use Rattle.provider.specs.Rules.Event.{Event, Overflow}
use Rattle.reassembly.proofs.Ahead.{behind_part_lem}
use Rattle.reassembly.proofs.Held.{cut_skips, held_again_lem, more_to_come, open_cut, open_none, open_unfinished, size_front, unfinished_long, unfinished_short, waiting_holding, waiting_skipped}
use Rattle.std.specs.Prelude.{if◌then◌else◌}
use Rattle.reassembly.specs.declared.Unfinished.{Unfinished}
use Rattle.reassembly.specs.Parts.{skipping, none, unfinished, waiting, is_cut, Open, ahead}
use Rattle.recording.proofs.Divisions.{ended_first, open_first, divide_on, rest_open, together}
use Rattle.recording.specs.Reading.{Division, no_record, after, divide, event_in, cut_events, part, size_in, zeros}
use Rattle.replay.proofs.Feeding.{long_marker, fed_open, fed_ended, ended_whole, ended_cut}
use Rattle.replay.proofs.Theorems.Answers.{lines_on}
use Rattle.replay.proofs.Theorems.Valid.{start_valid, shows_valid}
use Rattle.replay.specs.Parts.{start_stream, Ready, behind_event, fed, ended}
use Rattle.replay.specs.Promises.{Lines, line_then, fed_within, fed_part, fed_parts, line_of, joined_parts, PartsJoined, StepReadsOn, StaysReady, HeldShort, EmptyPartKeeps}
use Rattle.replay.specs.Replay.{start, shown, lines_from, after_events}
use Rattle.replay.specs.declared.Line.{Line}
use Rattle.replay.specs.declared.Replay.{Replay}
use Rattle.replay.specs.declared.parts.Ended.{Ended}
use Rattle.replay.specs.declared.parts.Fed.{Fed}
use Rattle.std.specs.Prelude.{Option, Some, None}
use Rattle.replay.specs.declared.parts.Stream.{Stream}

-- what a test of two numbers decides
by_order : (a b : ℕ) {C : Type 0} → (a < b → C) → (b ≤ a → C) → C
by_order a b {C} f g = by-test (ltb a b) refl
  where
    by-test : (t : Bool) → ltb a b ≡ t → C
    by-test true e = f (ltb-true a b e)
    by-test false e = g (ltb-false a b e)

-- ---- one step

module _ (s : Stream) (bs : List ℕ) (at : ℕ) (o : Open s.unfinished) where
  abbrev w : List ℕ
  w = waiting s.unfinished

  abbrev l : List ℕ
  l = ahead s.unfinished bs at

  -- how much of the part a record takes that ends there
  abbrev takes : ℕ
  takes = 2 + size_in l - length w

  all-long : length l ≡ length w + (length bs - at)
  all-long = length-append w (drop at bs) ∙ ap (λ n. length w + n) (length-drop at bs)

  some-taken : 0 < takes
  some-taken = omega (arith, more_to_come s.unfinished (drop at bs) o)

  within-part : 2 + size_in l ≤ length l → at ≤ length bs → at + takes ≤ length bs
  within-part h k = omega (arith, h, k, all-long, more_to_come s.unfinished (drop at bs) o)

  -- the part from there on is what is left
  rest-is : drop (2 + size_in l) l ≡ drop (at + takes) bs
  rest-is =
      let sum : 2 + size_in l ≡ length w + takes = omega (arith, more_to_come s.unfinished (drop at bs) o) in
      ap (λ n. drop n l) sum ∙ drop-append-add w (drop at bs) takes ∙ drop-drop takes at bs

pub step_reads_on : StepReadsOn
step_reads_on s bs at r h =
    let l = ahead s.unfinished bs at in
    by_order (length l) (2 + size_in l)
    (λ k. subst (λ (f : Fed). (at < f.at) × (f.at ≤ length bs)) (sym (fed_open s bs at refl k))
    (omega (arith, h, behind_part_lem bs at (omega (arith, h))), omega (arith, behind_part_lem bs at (omega (arith, h)))))
    (λ k. subst (λ (f : Fed). (at < f.at) × (f.at ≤ length bs)) (sym (fed_ended s bs at refl k))
    (omega (arith, some-taken s bs at r.held), within-part s bs at r.held k (omega (arith, h))))

pub stays_ready : StaysReady
unfolding ended
stays_ready s r = (fed_ready, by-cut (is_cut s.unfinished))
  where
    fed_ready : (part : List ℕ) (at : ℕ) → Ready (fed s part at).next
    fed_ready bs at =
        let l = ahead s.unfinished bs at in
        by_order (length l) (2 + size_in l)
        (λ k. subst (λ (f : Fed). Ready f.next) (sym (fed_open s bs at refl k))
        (record { device = r.device; held = open_unfinished l k }))
        (λ k. subst (λ (f : Fed). Ready f.next) (sym (fed_ended s bs at refl k))
        (record { device = shows_valid s.replay (event_in (part 2 (size_in l) l)) r.device; held = open_none }))

    by-cut : (b : Bool)
        → Ready (Ended.next (if b then record { next = behind_event (shown s.replay Overflow); line = Some (shown s.replay Overflow).line }
        else record { next = s; line = None }))
    by-cut true = record { device = shows_valid s.replay Overflow r.device; held = open_none }
    by-cut false = r

pub start_ready : Ready start_stream
start_ready = record { device = start_valid; held = open_none }

pub held_short : HeldShort
held_short s r = by-case r.held
  where
    by-case : Open s.unfinished → s.unfinished.count ≤ 1025
    by-case (inl k) = omega (arith, ap (λ (u : Unfinished). u.count) k.empty)
    by-case (inr k) =
        by_order s.unfinished.count 2 (λ h. omega (arith, h)) (λ h. omega (arith, k.cut, k.short h))

-- ---- what the steps come to

events_valid : (r : Replay) (es : List Event) → Valid r.device → Valid (after_events r es).device
unfolding after_events
events_valid r [] v = v
events_valid r (e ∷ es) v = events_valid (shown r e).next es (shows_valid r e v)

-- the lines of all whole records of what is ahead, and what is held behind them
abbrev outcome_of : Replay → Division → Lines
outcome_of r d =
    record {
      lines = lines_from r (map event_in d.whole);
      next = record { replay = after_events r (map event_in d.whole); unfinished = unfinished d.rest };
    }

abbrev outcome : Replay → List ℕ → Lines
outcome r bs = outcome_of r (divide bs)

-- a record in front
outcome_after : (r : Replay) (b : List ℕ) (d : Division)
    → outcome_of r (after b d) ≡ line_then (Some (shown r (event_in b)).line) (behind_event (shown r (event_in b))) (outcome_of (shown r (event_in b)).next d)
unfolding lines_from after_events
outcome_after r b d = refl

outcome_none : (r : Replay) (bs : List ℕ) → outcome_of r (no_record bs) ≡ record { lines = []; next = record { replay = r; unfinished = unfinished bs } }
unfolding lines_from after_events
outcome_none r bs = refl

after_on : (r : Replay) (xs ys : List Event) → after_events r (xs ++ ys) ≡ after_events (after_events r xs) ys
unfolding after_events
after_on r [] ys = refl
after_on r (x ∷ xs) ys = after_on (shown r x).next xs ys

-- one list of lines behind another
abbrev followed : Lines → Lines → Lines
followed a b = record { lines = a.lines ++ b.lines; next = b.next }

outcome_together : (r : Replay) (c d : Division)
    → outcome_of r (together c d) ≡ followed (outcome_of r c) (outcome_of (outcome_of r c).next.replay d)
outcome_together r c d =
    let xs = map event_in c.whole in
    let ys = map event_in d.whole in
    (λ i. record {
      lines = lines_from r (map-append event_in c.whole d.whole i);
      next = record { replay = after_events r (map-append event_in c.whole d.whole i); unfinished = unfinished d.rest };
    })
    ∙ (λ i. record { lines = lines_on r xs ys i; next = record { replay = after_on r xs ys i; unfinished = unfinished d.rest } })

-- ---- all steps of a part

all_fed : (fuel : ℕ) (s : Stream) (bs : List ℕ) (at : ℕ) → Open s.unfinished → at ≤ length bs → length bs - at < fuel
    → fed_within fuel s bs at ≡ outcome s.replay (ahead s.unfinished bs at)
unfolding fed_within waiting
all_fed zero s bs at o h k = absurd (not-suc-le-zero k)
all_fed (suc fuel) s bs at o h k =
    let l = ahead s.unfinished bs at in
    let n = size_in l in
    let to = at + takes s bs at o in
    let x = shown s.replay (event_in (part 2 n l)) in
    by_order (length l) (2 + n)
    (λ c. ap (λ (f : Fed). line_then f.line f.next (fed_within fuel f.next bs f.at)) (fed_open s bs at refl c)
    ∙ sym (ap (outcome_of s.replay) (open_first l c) ∙ outcome_none s.replay l))
    (λ c. ap (λ (f : Fed). line_then f.line f.next (fed_within fuel f.next bs f.at)) (fed_ended s bs at refl c)
    ∙ ap (line_then (Some x.line) (behind_event x))
    (all_fed fuel (behind_event x) bs to open_none (within-part s bs at o c h) (omega (arith, k, some-taken s bs at o, within-part s bs at o c h)))
    ∙ ap (λ (m : List ℕ). line_then (Some x.line) (behind_event x) (outcome x.next m)) (sym (rest-is s bs at o))
    ∙ sym (ap (outcome_of s.replay) (ended_first l c) ∙ outcome_after s.replay (part 2 n l) (divide (drop (2 + n) l))))

pub part_fed : (s : Stream) (bs : List ℕ) → Open s.unfinished → fed_part s bs ≡ outcome s.replay (waiting s.unfinished ++ bs)
part_fed s bs o = all_fed (suc (length bs)) s bs 0 o (omega arith) (omega arith)

-- ---- what is to come of a part, for a loop over its steps

abbrev pub to_come : Stream → List ℕ → ℕ → Lines
to_come s bs at = fed_within (suc (length bs - at)) s bs at

pub come_all : (s : Stream) (bs : List ℕ) → to_come s bs 0 ≡ fed_part s bs
come_all s bs =
    let all : length bs - 0 ≡ length bs = omega arith in ap (λ n. fed_within (suc n) s bs 0) all

come_then : (s : Stream) (bs : List ℕ) (at : ℕ) → Ready s → at < length bs
    → to_come s bs at ≡ line_then (fed s bs at).line (fed s bs at).next (to_come (fed s bs at).next bs (fed s bs at).at)
unfolding fed_within
come_then s bs at r h =
    let f = fed s bs at in
    let moved = step_reads_on s bs at r h in
    let o = ((stays_ready s r).0 bs at).held in
    ap (line_then f.line f.next)
    (all_fed (length bs - at) f.next bs f.at o moved.1 (omega (arith, h, moved.0))
    ∙ sym (all_fed (suc (length bs - f.at)) f.next bs f.at o moved.1 (omega arith)))

pub come_end : (s : Stream) (bs : List ℕ) (at : ℕ) → Ready s → length bs ≤ at → to_come s bs at ≡ record { lines = []; next = s }
unfolding fed_within
come_end s bs at r h =
    let u = s.unfinished in
    let nothing : ahead u bs at ≡ waiting u = ap (λ (l : List ℕ). waiting u ++ l) (drop_of_length-le bs {i = at} h) ∙ append-nil (waiting u) in
    ap (λ (f : Fed). line_then f.line f.next (fed_within (length bs - at) f.next bs f.at)) (fed_open s bs at nothing (open_cut u r.held))
    ∙ (λ i. record { lines = []; next = record { replay = s.replay; unfinished = sym (held_again_lem u r.held) i } })

-- the line of a step, if there is one, in front of what is to come behind it
abbrev pub line_and : Option Line → Lines → Lines
line_and None later = later
line_and (Some l) later = record { lines = l ∷ later.lines; next = later.next }

pub come_step : (s : Stream) (bs : List ℕ) (at : ℕ) → Ready s → at < length bs
    → to_come s bs at ≡ line_and (fed s bs at).line (to_come (fed s bs at).next bs (fed s bs at).at)
come_step s bs at r h =
    let l = ahead s.unfinished bs at in
    let ready = (stays_ready s r).0 bs at in
    let place = behind_part_lem bs at (omega (arith, h)) in
    come_then s bs at r h
    ∙ by_order (length l) (2 + size_in l)
    (λ k.
    let e = fed_open s bs at refl k in
    let last : length bs ≤ (fed s bs at).at = omega (arith, ap (λ (f : Fed). f.at) e, place) in
    ap (λ (p : Option Line). line_then p (fed s bs at).next (to_come (fed s bs at).next bs (fed s bs at).at)) (ap (λ (f : Fed). f.line) e)
    ∙ sym (come_end (fed s bs at).next bs (fed s bs at).at ready last)
    ∙ ap (λ (p : Option Line). line_and p (to_come (fed s bs at).next bs (fed s bs at).at)) (sym (ap (λ (f : Fed). f.line) e)))
    (λ k.
    let e = fed_ended s bs at refl k in
    ap (λ (p : Option Line). line_then p (fed s bs at).next (to_come (fed s bs at).next bs (fed s bs at).at)) (ap (λ (f : Fed). f.line) e)
    ∙ ap (λ (p : Option Line). line_and p (to_come (fed s bs at).next bs (fed s bs at).at)) (sym (ap (λ (f : Fed). f.line) e)))

pub empty_part_keeps : EmptyPartKeeps
empty_part_keeps s r = sym (come_all s []) ∙ come_end s [] 0 r (omega arith)

-- the stream behind a part is ready
pub part_ready : (s : Stream) (bs : List ℕ) → Ready s → Ready (fed_part s bs).next
part_ready s bs r =
    let l = waiting s.unfinished ++ bs in
    subst (λ (a : Lines). Ready a.next) (sym (part_fed s bs r.held))
    (record { device = events_valid s.replay (map event_in (divide l).whole) r.device; held = open_unfinished (divide l).rest (rest_open l) })

pub parts_ready : (s : Stream) (ps : List (List ℕ)) → Ready s → Ready (fed_parts s ps).next
unfolding fed_parts
parts_ready s [] r = r
parts_ready s (p ∷ ps) r = parts_ready (fed_part s p).next ps (part_ready s p r)

-- ---- what is held stands for what is left of the parts before

-- of a record that is too long, how much is to come is all that counts
module _ (r : Replay) (rest more : List ℕ) (n : ℕ) (field : 2 ≤ length rest) (long : 1024 < size_in rest)
    (left : length rest + n ≡ 2 + size_in rest) where
  abbrev all : List ℕ
  all = rest ++ more

  size_is : size_in all ≡ size_in rest
  size_is = size_front rest more field

  long-is : length all ≡ length rest + length more
  long-is = length-append rest more

  -- the part ends in it
  long-open : length more < n → outcome r all ≡ record { lines = []; next = record { replay = r; unfinished = skipping (n - length more) } }
  long-open h =
      let cut : length all < 2 + size_in all = omega (arith, size_is, long-is, left, h) in
      let come : 2 + size_in all - length all ≡ n - length more = omega (arith, size_is, long-is, left) in
      ap (outcome_of r) (open_first all cut)
      ∙ outcome_none r all
      ∙ (λ i. record { lines = []; next = record { replay = r; unfinished = unfinished_long all (omega (arith, long-is, field)) (omega (arith, size_is, long)) i } })
      ∙ ap (λ k. record { lines = []; next = record { replay = r; unfinished = skipping k } }) come

  -- it ends in the part, as one marker
  long-ended : n ≤ length more
      → outcome r all ≡ line_then (Some (shown r Overflow).line) (behind_event (shown r Overflow)) (outcome (shown r Overflow).next (drop n more))
  long-ended h =
      let whole : 2 + size_in all ≤ length all = omega (arith, size_is, long-is, left, h) in
      let body : length (part 2 (size_in all) all) ≡ size_in all =
      length-take-le (size_in all) (drop 2 all) (rw (length-drop 2 all) (omega (arith, whole)))
      in
      let marker : event_in (part 2 (size_in all) all) ≡ Overflow = long_marker (part 2 (size_in all) all) (omega (arith, body, size_is, long)) in
      let sum : 2 + size_in all ≡ length rest + n = omega (arith, size_is, left) in
      ap (outcome_of r) (ended_first all whole)
      ∙ outcome_after r (part 2 (size_in all) all) (divide (drop (2 + size_in all) all))
      ∙ ap (λ (e : Event). line_then (Some (shown r e).line) (behind_event (shown r e)) (outcome (shown r e).next (drop (2 + size_in all) all))) marker
      ∙ ap (λ (l : List ℕ). line_then (Some (shown r Overflow).line) (behind_event (shown r Overflow)) (outcome (shown r Overflow).next l))
      (ap (λ k. drop k all) sum ∙ drop-append-add rest more n)

pub held_stands : (r : Replay) (rest more : List ℕ) → length rest < 2 + size_in rest
    → outcome r (waiting (unfinished rest) ++ more) ≡ outcome r (rest ++ more)
held_stands r rest more cut =
    by_order (length rest) 2 (λ h. short (λ k. omega (arith, h, k)))
    (λ h. by_order 1024 (size_in rest) (λ k. skips h k) (λ k. short (λ j. k)))
  where
    short : (2 ≤ length rest → size_in rest ≤ 1024) → outcome r (waiting (unfinished rest) ++ more) ≡ outcome r (rest ++ more)
    short h = ap (λ (l : List ℕ). outcome r (l ++ more)) (ap waiting (unfinished_short rest h) ∙ waiting_holding rest)

    skips : 2 ≤ length rest → 1024 < size_in rest → outcome r (waiting (unfinished rest) ++ more) ≡ outcome r (rest ++ more)
    skips h k =
        let n = 2 + size_in rest - length rest in
        let front : List ℕ = 0 ∷ (1024 + n) ∷ zeros 1024 in
        let stands : waiting (unfinished rest) ≡ front =
        ap waiting (unfinished_long rest h k) ∙ waiting_skipped (skipping n) (omega (arith, cut))
        in
        ap (λ (l : List ℕ). outcome r (l ++ more)) stands
        ∙ by_order (length more) n
        (λ c. long-open r front more n (omega arith) (omega (arith, cut)) (omega arith) c
        ∙ sym (long-open r rest more n h k (omega (arith, cut)) c))
        (λ c. long-ended r front more n (omega arith) (omega (arith, cut)) (omega arith) c
        ∙ sym (long-ended r rest more n h k (omega (arith, cut)) c))

-- ---- all parts

parts_fed : (s : Stream) (ps : List (List ℕ)) → Open s.unfinished
    → fed_parts s ps ≡ outcome s.replay (waiting s.unfinished ++ joined_parts ps)
unfolding fed_parts
parts_fed s [] o =
    let w = waiting s.unfinished in
    sym (ap (outcome s.replay) (append-nil w)
    ∙ ap (outcome_of s.replay) (open_first w (open_cut s.unfinished o))
    ∙ outcome_none s.replay w
    ∙ (λ i. record { lines = []; next = record { replay = s.replay; unfinished = sym (held_again_lem s.unfinished o) i } }))
parts_fed s (p ∷ ps) o =
    let l = waiting s.unfinished ++ p in
    let d = divide l in
    let next : Stream = (outcome s.replay l).next in
    ap (λ (a : Lines). followed a (fed_parts a.next ps)) (part_fed s p o)
    ∙ ap (followed (outcome s.replay l))
    (parts_fed next ps (open_unfinished d.rest (rest_open l))
    ∙ held_stands next.replay d.rest (joined_parts ps) (rest_open l))
    ∙ sym (outcome_together s.replay d (divide (d.rest ++ joined_parts ps)))
    ∙ ap (outcome_of s.replay) (sym (divide_on l (joined_parts ps)))
    ∙ ap (outcome s.replay) (append_assoc (waiting s.unfinished) p (joined_parts ps))

-- ---- the end

-- something is held exactly if something is left
cut_left : (b : ℕ) (bs : List ℕ) → length (b ∷ bs) < 2 + size_in (b ∷ bs) → is_cut (unfinished (b ∷ bs)) ≡ true
cut_left b bs cut =
    by_order (length (b ∷ bs)) 2 (λ h. short (λ k. omega (arith, h, k)))
    (λ h. by_order 1024 (size_in (b ∷ bs))
    (λ k. ap is_cut (unfinished_long (b ∷ bs) h k) ∙ sym (cut_skips (skipping (2 + size_in (b ∷ bs) - length (b ∷ bs))) (λ e. some e)))
    (λ k. short (λ j. k)))
  where
    some : 2 + size_in (b ∷ bs) - length (b ∷ bs) ≡ 0 → ⊥
    some e = omega (arith, cut, e)

    not_none : length (b ∷ bs) ≡ 0 → ⊥
    not_none e = omega (arith, e)

    short : (2 ≤ length (b ∷ bs) → size_in (b ∷ bs) ≤ 1024) → is_cut (unfinished (b ∷ bs)) ≡ true
    short h =
        ap is_cut (unfinished_short (b ∷ bs) h)
        ∙ ap (λ (l : List ℕ). not (eqb (length l) 0)) (waiting_holding (b ∷ bs))
        ∙ ap not (ne_eqb (length (b ∷ bs)) 0 (λ e. not_none e))

abbrev stream : Replay → List ℕ → Stream
stream r rest = record { replay = r; unfinished = unfinished rest }

ended_with : (r : Replay) (rest : List ℕ) → length rest < 2 + size_in rest
    → (line_of (ended (stream r rest)).line ≡ lines_from r (cut_events rest))
    × ((ended (stream r rest)).next ≡ record { replay = after_events r (cut_events rest); unfinished = none })
unfolding lines_from after_events
ended_with r [] cut =
    let nothing : unfinished [] ≡ none = unfinished_short [] (λ k. omega (arith, k)) in
    let whole : is_cut (unfinished []) ≡ false = ap is_cut nothing ∙ ap (λ (l : List ℕ). not (eqb (length l) 0)) (waiting_holding []) in
    let e = ended_whole (stream r []) whole in (
      ap (λ (x : Ended). line_of x.line) (sym e),
      ap (λ (x : Ended). x.next) (sym e) ∙ (λ i. record { replay = r; unfinished = nothing i }),
    )
ended_with r (b ∷ bs) cut =
    let e = ended_cut (stream r (b ∷ bs)) (cut_left b bs cut) refl refl in
    (ap (λ (x : Ended). line_of x.line) (sym e), ap (λ (x : Ended). x.next) (sym e))

pub parts_joined : PartsJoined
parts_joined parts =
    let bs = joined_parts parts in
    let d = divide bs in
    let es = map event_in d.whole in
    let r = after_events start es in
    let all : fed_parts start_stream parts ≡ outcome start bs =
    parts_fed start_stream parts open_none ∙ ap (λ (w : List ℕ). outcome start (w ++ bs)) (waiting_holding [])
    in
    let end = ended_with r d.rest (rest_open bs) in
    record {
      printed = ap (λ (a : Lines). a.lines ++ line_of (ended a.next).line) all
          ∙ ap (λ (ls : List Line). lines_from start es ++ ls) end.0
          ∙ sym (lines_on start es (cut_events d.rest));
      final = ap (λ (a : Lines). (ended a.next).next) all
          ∙ end.1
          ∙ (λ i. record { replay = sym (after_on start es (cut_events d.rest)) i; unfinished = none });
      cut = ap (λ (a : Lines). a.next) all;
    }
