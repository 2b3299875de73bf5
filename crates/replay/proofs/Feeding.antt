-- A step of a replay by parts: what the reader finds in the part, or what is held of a record that began before it.
-- Assumes nothing.
use Rattle.std.proofs.Common.{◌≡◌, ℕ, suc, ◌+◌, ◌-◌, ◌<◌, ◌≤◌, Bool, true, false, not, eqb, ltb, List, [], ◌∷◌, ◌++◌, length, take, drop, replicate, sym, refl, ap, ◌∙◌, subst, append_assoc, arith, length-drop, drop_of_length-le, length-take-le, take_at, take-add, drop_at, ltb-false, ltb-true, eqb-true, le-leb}
use borrow.Author.Tests.{not-false}
use Rattle.std.specs.Prelude.{if◌then◌else◌}
use Rattle.laws.specs.Lists.{padded}
use Rattle.provider.specs.Rules.Event.{Event, Overflow}
use Rattle.reassembly.proofs.Ahead.{behind_part_lem, taken_ended, taken_open}
use Rattle.reassembly.proofs.Held.{held_again_lem, unfinished_short}
use Rattle.reassembly.specs.Parts.{holding, none, unfinished, waiting, is_cut, Open, ahead, behind_part, taken_of, taken, Unended}
use Rattle.reassembly.specs.declared.Found.{Found}
use Rattle.reassembly.specs.declared.Found.TheVariants as found
use Rattle.reassembly.specs.declared.Taken.{Taken}
use Rattle.reassembly.specs.declared.Unfinished.{Unfinished}
use Rattle.recording.proofs.Divisions.{ended_first, open_first, rest_open}
use Rattle.recording.proofs.KindsRead.{read_long}
use Rattle.recording.proofs.Walking.{Walk}
use Rattle.recording.specs.Reading.{Division, no_record, divide, event_in, part, size_in, read_as}
use Rattle.recording.specs.declared.reader.Next.TheVariants.{Record, Cut, End}
use Rattle.replay.specs.Parts.{waits, fed_line, fed_of, fed, ended}
use Rattle.replay.specs.Replay.{shown}
use Rattle.replay.specs.declared.parts.Fed.{Fed}
use Rattle.std.specs.Prelude.{Some, None}
use Rattle.replay.specs.declared.parts.Stream.{Stream}
use Rattle.replay.specs.declared.Shown.{Shown}

-- a record that is too long is a marker, whatever it holds
pub long_marker : (r : List ℕ) → 1024 < length r → event_in r ≡ Overflow
unfolding read_as
long_marker r h = ap (λ k. read_as k r) (sym (read_long r (omega (arith, h)) h))

-- ---- by what is ahead

module _ (s : Stream) (bs : List ℕ) (at : ℕ) {l : List ℕ} (e : ahead s.unfinished bs at ≡ l) where
  pub fed_open : length l < 2 + size_in l → fed s bs at ≡ waits s (unfinished l) (behind_part bs at)
  unfolding fed
  fed_open h =
      ap (λ (m : List ℕ). fed_of s bs at (divide m).whole) e
      ∙ ap (λ (d : Division). fed_of s bs at d.whole) (open_first l h)
      ∙ ap (λ (m : List ℕ). waits s (unfinished m) (behind_part bs at)) e

  pub fed_ended : 2 + size_in l ≤ length l
      → fed s bs at ≡ fed_line (shown s.replay (event_in (part 2 (size_in l) l))) (at + (2 + size_in l - length (waiting s.unfinished)))
  unfolding fed
  fed_ended h =
      let within : size_in l ≤ length (drop 2 l) = rw (length-drop 2 l) (omega (arith, h)) in
      let long : length (part 2 (size_in l) l) ≡ size_in l = length-take-le (size_in l) (drop 2 l) within in
      ap (λ (m : List ℕ). fed_of s bs at (divide m).whole) e
      ∙ ap (λ (d : Division). fed_of s bs at d.whole) (ended_first l h)
      ∙ ap (λ n. fed_line (shown s.replay (event_in (part 2 (size_in l) l))) (at + (2 + n - length (waiting s.unfinished)))) long

-- ---- a record that began in an earlier part

-- what is shown of it, by what was found
abbrev pub shown_as : Stream → Taken → Found → Fed
shown_as s t found.Nothing = waits s t.next t.at
shown_as s t (found.Held end) = fed_line (shown s.replay (event_in (part 2 (end - 2) t.next.bytes))) t.at
shown_as s t found.TooLong = fed_line (shown s.replay Overflow) t.at

-- the record stands in the bytes held
held_record : (l : List ℕ) (n : ℕ) → 2 + n ≤ length l → part 2 (2 + n - 2) (padded 1026 0 (take (2 + n) l)) ≡ part 2 n l
held_record l n h =
    let width : 2 + n - 2 ≡ n = omega arith in
    let z : List ℕ = replicate (1026 - length (take (2 + n) l)) 0 in
    let front : length (take 2 l) ≡ 2 = length-take-le 2 l (omega (arith, h)) in
    let body : length (take n (drop 2 l)) ≡ n = length-take-le n (drop 2 l) (rw (length-drop 2 l) (omega (arith, h))) in
    ap (λ k. part 2 k (padded 1026 0 (take (2 + n) l))) width
    ∙ ap (λ (m : List ℕ). part 2 n (m ++ z)) (take-add 2 n l)
    ∙ ap (λ (m : List ℕ). part 2 n m) (append_assoc (take 2 l) (take n (drop 2 l)) z)
    ∙ ap (λ (m : List ℕ). take n m) (drop_at (take 2 l) (take n (drop 2 l) ++ z) 2 front)
    ∙ take_at (take n (drop 2 l)) z n body

module _ (s : Stream) (bs : List ℕ) (at : ℕ) where
  abbrev u : Unfinished
  u = s.unfinished

  abbrev l : List ℕ
  l = ahead u bs at

  abbrev held : ℕ
  held = length (waiting u)

  abbrev ends : Taken → Fed
  ends t = shown_as s t t.found

  pub found_fed : ends (taken u bs at) ≡ fed s bs at
  found_fed = by-test (ltb (length l) (2 + size_in l)) refl
    where
      by_size : (t : Bool) → ltb 1024 (size_in l) ≡ t → 2 + size_in l ≤ length l
          → ends (if t then record { next = none; at = at + (2 + size_in l - held); found = found.TooLong } else
          record { next = holding (take (2 + size_in l) l); at = at + (2 + size_in l - held); found = found.Held (2 + size_in l) })
          ≡ fed_line (shown s.replay (event_in (part 2 (size_in l) l))) (at + (2 + size_in l - held))
      by_size true t h =
          let within : size_in l ≤ length (drop 2 l) = rw (length-drop 2 l) (omega (arith, h)) in
          let long : length (part 2 (size_in l) l) ≡ size_in l = length-take-le (size_in l) (drop 2 l) within in
          ap (λ (e : Event). fed_line (shown s.replay e) (at + (2 + size_in l - held)))
          (sym (long_marker (part 2 (size_in l) l) (omega (arith, long, ltb-true 1024 (size_in l) t))))
      by_size false t h =
          ap (λ (r : List ℕ). fed_line (shown s.replay (event_in r)) (at + (2 + size_in l - held))) (held_record l (size_in l) h)

      by-test : (t : Bool) → ltb (length l) (2 + size_in l) ≡ t → ends (taken u bs at) ≡ fed s bs at
      by-test true t =
          let h = ltb-true (length l) (2 + size_in l) t in
          ap ends (taken_open u bs at refl h) ∙ sym (fed_open s bs at refl h)
      by-test false t =
          let h = ltb-false (length l) (2 + size_in l) t in
          ap ends (taken_ended u bs at refl h) ∙ by_size (ltb 1024 (size_in l)) refl h ∙ sym (fed_ended s bs at refl h)

  -- the same of what was found
  pub found_told : (t : Taken) (f : Found) → t ≡ taken u bs at → t.found ≡ f → shown_as s t f ≡ fed s bs at
  found_told t f p q = ap (shown_as s t) (sym q) ∙ ap ends p ∙ found_fed

-- a record that is held stands within the bytes
abbrev pub Within : Found → Type 0
Within found.Nothing = Unit
Within (found.Held end) = (2 ≤ end) × (end ≤ 1026)
Within found.TooLong = Unit

pub held_within : (v : Unfinished) (bs : List ℕ) (at : ℕ) (t : Taken) (f : Found) → t ≡ taken v bs at → t.found ≡ f → Within f
unfolding taken
held_within v bs at t f p q =
    subst Within q (subst (λ (x : Taken). Within x.found) (sym p) (by_whole (divide (ahead v bs at)).whole))
  where
    by_size : (m : List ℕ) (n k : ℕ) (t : Bool) → ltb 1024 n ≡ t
        → Within (Taken.found (if t then record { next = none; at = at + (2 + n - k); found = found.TooLong } else
        record { next = holding (take (2 + n) m); at = at + (2 + n - k); found = found.Held (2 + n) }))
    by_size m n k true e = tt
    by_size m n k false e = (omega arith, omega (arith, ltb-false 1024 n e))

    by_whole : (rs : List (List ℕ)) → Within (taken_of (ahead v bs at) (length (waiting v)) bs at rs).found
    by_whole [] = tt
    by_whole (r ∷ rs) = by_size (ahead v bs at) (length r) (length (waiting v)) (ltb 1024 (length r)) refl

-- ---- a record that begins in the part

module _ (s : Stream) (bs : List ℕ) (at : ℕ) (o : Open s.unfinished) (whole : is_cut s.unfinished ≡ false) where
  nothing-waits : waiting s.unfinished ≡ []
  nothing-waits = by-list (waiting s.unfinished) whole
    where
      by-list : (w : List ℕ) → not (eqb (length w) 0) ≡ false → w ≡ []
      by-list [] e = refl
      by-list (a ∷ w) e = absurd (some (eqb-true (suc (length w)) 0 (not-false (eqb (suc (length w)) 0) e)))
        where
          some : suc (length w) ≡ 0 → ⊥
          some z = omega (arith, z)

  in-part : ahead s.unfinished bs at ≡ drop at bs
  in-part = ap (λ (w : List ℕ). w ++ drop at bs) nothing-waits

  none-held : s.unfinished ≡ none
  none-held = held_again_lem s.unfinished o ∙ ap unfinished nothing-waits ∙ unfinished_short [] (λ k. omega (arith, k))

  -- no record of the rest is whole
  pub rest_unended : divide (drop at bs) ≡ no_record (drop at bs) → Unended (drop at bs)
  rest_unended d =
      record { cut = subst (λ (c : Division). length c.rest < 2 + size_in c.rest) d (rest_open (drop at bs)) }

  pub record_fed : (start end : ℕ) → Walk bs at (Record start end)
      → fed_line (shown s.replay (event_in (part start (end - start) bs))) end ≡ fed s bs at
  unfolding fed
  record_fed start end w =
      let long : length (part start (end - start) bs) ≡ end - start =
      length-take-le (end - start) (drop start bs) (rw (length-drop start bs) (omega (arith, w.1, w.2)))
      in
      let place : at + (2 + length (part start (end - start) bs) - length (waiting s.unfinished)) ≡ end =
      omega (arith, long, w.0, w.1, ap (λ (x : List ℕ). length x) nothing-waits)
      in
      sym (ap (λ (m : List ℕ). fed_of s bs at (divide m).whole) in-part
      ∙ ap (λ (d : Division). fed_of s bs at d.whole) w.3
      ∙ ap (fed_line (shown s.replay (event_in (part start (end - start) bs)))) place)

  pub cut_fed : {u : Unfinished} → Walk bs at Cut → u ≡ unfinished (drop at bs) → waits s u (length bs) ≡ fed s bs at
  cut_fed w e =
      (λ i. waits s (e i) (sym (behind_part_lem bs at (omega (arith, w.0))) i))
      ∙ sym (fed_open s bs at in-part (rest_unended w.1).cut)

  pub end_fed : Walk bs at End → waits s s.unfinished at ≡ fed s bs at
  end_fed w =
      let nothing : drop at bs ≡ [] = drop_of_length-le bs {i = at} w.0 in
      let held : s.unfinished ≡ unfinished (drop at bs) = none-held ∙ sym (unfinished_short [] (λ k. omega (arith, k))) ∙ ap unfinished (sym nothing) in
      let place : at ≡ behind_part bs at = ap (λ (b : Bool). if b then at else length bs) (sym (le-leb (length bs) at w.0)) in
      (λ i. waits s (held i) (place i)) ∙ sym (fed_open s bs at in-part (rest_unended w.1).cut)

-- ---- the end of the recording

pub ended_whole : (s : Stream) → is_cut s.unfinished ≡ false → record { next = s; line = None } ≡ ended s
unfolding ended
ended_whole s e = rw e

pub ended_cut : (s : Stream) {x : Shown} {u : Unfinished} → is_cut s.unfinished ≡ true → x ≡ shown s.replay Overflow → u ≡ none
    → record { next = record { replay = x.next; unfinished = u }; line = Some x.line } ≡ ended s
unfolding ended
ended_cut s e p q = (λ i. record { next = record { replay = (p i).next; unfinished = q i }; line = Some (p i).line }) ∙ rw e
