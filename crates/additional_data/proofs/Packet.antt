-- Laws of the packet: what the copies, the counter mode and the tag leave is the packet of the name.
-- Assumes nothing.
use mathlib.Core.List.{List, [], ◌++◌, append_assoc}
use mathlib.Core.Path.{◌≡◌, refl, sym, ap, ap₂, ◌∙◌}
use Prim.Native.Nat.{ℕ, ◌+◌, ◌≤◌}
use lib.ListN.{length, take, drop, length-append, take-append-drop}
use lib.Seq.{drop_at, length-take-le, paste}
use borrow.Rule.Slice.PartMut.{mid_of, put_mid}
use Rattle.laws.proofs.Lists.{paste_at}
use Rattle.laws.proofs.Parts.{part_read, part_written, part_copied}
use Rattle.laws.specs.Choice.{◌and◌}
use Rattle.std.specs.Prelude.{Bool, true, false, if◌then◌else◌, None, Some}
use Rattle.names.proofs.ValidNames.{reading_valid}
use Rattle.names.specs.Name.{Valid, reading}
use Rattle.names.specs.declared.Name.{Name}
use Rattle.additional_data.specs.CounterMode.{counter_mode}
use Rattle.additional_data.specs.Packet.{tag, sealed, opened, packet_sized, tag_fits, nonce_in}
use Rattle.additional_data.proofs.Laws.{length_counter_mode, length_tag}

-- the output o, whose first eight bytes are to hold the tag
module _ (key nonce text o : List ℕ) (eight : length nonce ≡ 8) (room : 8 ≤ length o) where
  -- what is before the text, and what is behind it
  abbrev before : List ℕ
  before = take 8 o ++ nonce

  abbrev rest : List ℕ
  rest = drop (16 + length text) o

  abbrev laid : List ℕ → List ℕ
  laid l = (before ++ l) ++ rest

  front : length before ≡ 16
  front = length-append (take 8 o) nonce ∙ rw (length-take-le 8 o room, eight)

  -- nonce and text in their places
  laid-text : {x y : List ℕ} → x ≡ paste o 8 nonce (length nonce) → y ≡ paste x 16 text (length text) → y ≡ laid text
  laid-text {x} e f =
      let begun : x ≡ before ++ drop 16 o =
      e ∙ rw eight (part_copied o (take 8 o) nonce 8 8 (length-take-le 8 o room) eight (sym (take-append-drop 8 o)))
      in
      f ∙ part_copied o before text 16 (length text) front refl begun

  -- the tag is made of all that is behind its place
  laid-signed : (l : List ℕ) → length l ≡ length text → mid_of 8 (8 + length text) (laid l) ≡ nonce ++ l
  laid-signed l h =
      ap (λ (m : List ℕ). mid_of 8 (8 + length text) (m ++ rest)) (append_assoc (take 8 o) nonce l)
      ∙ part_read (take 8 o) (nonce ++ l) rest 8 (8 + length text) (length-take-le 8 o room)
      (length-append nonce l ∙ rw (eight, h))

  tag-laid : (l t : List ℕ) → length t ≡ 8 → paste (laid l) 0 t (length t) ≡ ((t ++ nonce) ++ l) ++ rest
  tag-laid l t h =
      let behind : drop 8 (laid l) ≡ nonce ++ (l ++ rest) =
      simp append_assoc (drop_at (take 8 o) (nonce ++ (l ++ rest)) 8 (length-take-le 8 o room))
      in
      let joined : t ++ (nonce ++ (l ++ rest)) ≡ ((t ++ nonce) ++ l) ++ rest = simp append_assoc in
      rw h (paste_at [] (laid l) t 0 8 refl h ∙ ap (λ (m : List ℕ). t ++ m) behind ∙ joined)

  -- m and n are the sizes of what is lent to the counter mode and for the tag
  pub packet_sealed : (m n : ℕ) → m ≡ length text → n ≡ 8 + length text → {x y p t w : List ℕ}
      → x ≡ paste o 8 nonce (length nonce) → y ≡ paste x 16 text (length text)
      → p ≡ counter_mode key nonce (mid_of 16 m y) → t ≡ tag key (mid_of 8 n (put_mid 16 m y p))
      → w ≡ paste (put_mid 16 m y p) 0 t (length t) → w ≡ sealed key nonce text ++ drop (16 + length text) o
  unfolding sealed
  packet_sealed m n em en {x} {y} {p} {t} {w} ex ey ep et ew =
      let made : List ℕ = counter_mode key nonce text in
      let y-is : y ≡ laid text = laid-text ex ey in
      let p-is : p ≡ made =
      ep ∙ ap (counter_mode key nonce) (ap₂ (mid_of 16) em y-is ∙ part_read before text rest 16 (length text) front refl)
      in
      let z-is : put_mid 16 m y p ≡ laid made =
      ap (λ (k : ℕ). put_mid 16 k y p) em ∙ ap₂ (put_mid 16 (length text)) y-is p-is
      ∙ part_written before text rest 16 (length text) front refl made
      in
      let t-is : t ≡ tag key (nonce ++ made) =
      et ∙ ap (tag key) (ap₂ (mid_of 8) en z-is ∙ laid-signed made (length_counter_mode key nonce text))
      in
      ew ∙ ap₂ (λ (z t : List ℕ). paste z 0 t (length t)) z-is t-is
      ∙ tag-laid made (tag key (nonce ++ made)) (length_tag key (nonce ++ made))

-- ---- opening

-- a packet is opened to a valid name
pub opened_valid : (key packet : List ℕ) {n : Name} → opened key packet ≡ Some n → Valid n
unfolding opened
opened_valid key packet {n} = by-test (packet_sized packet and tag_fits key packet)
  where
    by-test : (b : Bool)
        → (if b then reading (counter_mode key (nonce_in packet) (drop 16 packet)) else None) ≡ Some n → Valid n
    by-test true h = reading_valid (counter_mode key (nonce_in packet) (drop 16 packet)) h
    by-test false h = cc
