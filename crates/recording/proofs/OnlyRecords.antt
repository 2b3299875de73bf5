-- What is read as an event other than the marker is the record of that event: its fields, put together again, are the bytes.
-- Assumes nothing.
use mathlib.Core.Bool.{Bool, true, false, not}
use mathlib.Core.List.{List, [], ◌∷◌, ◌++◌, append_assoc}
use mathlib.Core.Logic.{◌⊎◌, inl, inr}
use mathlib.Core.Path.{◌≡◌, refl, sym, ap, ◌∙◌}
use Prim.Native.Nat.{ℕ, suc, ◌+◌, ◌-◌, ◌≤◌}
use native.Mathlib.Omega.{arith}
use lib.Dec.{eqb, leb, ltb}
use lib.ListN.{length, drop, get_or, length-replicate}
use Rattle.pairing.specs.Pairing.{PairingStarted, ConfirmationNeeded, PairingEnded, AccountKeyWrite, NameWrite}
use borrow.Author.Tests.{ltb-false, leb-true, eqb-true, ltb-true, not-false}
use Rattle.laws.proofs.Bitwise.{by_bit}
use Rattle.laws.proofs.Choice.{or_false_left, or_false_right, and_left, and_right}
use Rattle.laws.specs.BigEndian.{bytes}
use Rattle.laws.specs.Choice.{◌and◌, ◌or◌}
use Rattle.std.specs.Option.{is_some}
use Rattle.std.specs.Prelude.{Option, if◌then◌else◌}
use Rattle.laws.specs.Lists.{All}
use Rattle.provider.specs.Rules.Event.{Event, Overflow, PowerOn, OnDevice, PairingMode, AddressRotated, FactoryReset, LinkEvent, LinkUp, LinkDown, OnSession}
use Rattle.provider.specs.declared.Start.{Start}
use Rattle.basics.proofs.Laws.{same_eq}
use Rattle.recording.proofs.Fields.{part_and_rest, byte_and_rest, length_part, number_part, nothing_behind, last_field}
use Rattle.recording.specs.Layout.{kind_byte, kind_of, fields, flag, body, on_link_fields, secret_of, element_bytes, start_bytes}
use Rattle.recording.specs.Promises.{IsByte, OnlyRecordsRead}
use Rattle.recording.specs.Reading.{secret_if, element_at, is_element, is_element_at, key_based_fields, passkey_fields, list_length, start_at, kinds, kind_among, kind_in, kind_read, or_marker, link_event, number_at, part, is_flag, zeros, read_as, read_power_on, read_key_based_write, read_passkey_write}
use Rattle.recording.specs.declared.Kind.{Kind}
use Rattle.recording.specs.declared.Kind.TheVariants as kind

-- ---- version and kind

-- a kind byte is read as its kind, or as a marker
among : (b : ℕ) (ks : List Kind) → (kind_among b ks ≡ kind.Marker) ⊎ (kind_byte (kind_among b ks) ≡ b)
among b [] = inl refl
among b (k ∷ ks) = one (eqb b (kind_byte k)) refl (among b ks)
  where
    one : (t : Bool) → eqb b (kind_byte k) ≡ t
        → ((kind_among b ks ≡ kind.Marker) ⊎ (kind_byte (kind_among b ks) ≡ b))
        → ((if t then k else kind_among b ks) ≡ kind.Marker) ⊎ (kind_byte (if t then k else kind_among b ks) ≡ b)
    one true e rest = inr (sym (eqb-true b (kind_byte k) e))
    one false e rest = rest

-- what is read as kind k begins with the version and the kind's byte
abbrev Begins : Kind → List ℕ → Type 0
Begins k r = 0x01 ∷ kind_byte k ∷ drop 2 r ≡ r

-- ---- fields

marker_or : (good : Bool) (e : Event) (r : List ℕ) → (good ≡ true → body e ≡ r) → (or_marker good e ≡ Overflow) ⊎ (body (or_marker good e) ≡ r)
marker_or true e r h = inr (h refl)
marker_or false e r h = inl refl

module _ (r : List ℕ) (bs : All IsByte r) where
  link-fields : (x : List ℕ) → 11 ≤ length r → x ≡ drop 11 r → get_or r 2 0 ∷ (bytes 8 (number_at 3 8 r) ++ x) ≡ drop 2 r
  link-fields x h e =
      ap (λ (l : List ℕ). get_or r 2 0 ∷ (l ++ x)) (number_part r 3 8 h bs)
      ∙ ap (λ (l : List ℕ). get_or r 2 0 ∷ (part 3 8 r ++ l)) e
      ∙ ap (λ (l : List ℕ). get_or r 2 0 ∷ l) (part_and_rest r 3 8 11 refl)
      ∙ byte_and_rest r 2 (omega (arith, h))

  device-fields : (x : List ℕ) → 10 ≤ length r → x ≡ drop 10 r → bytes 8 (number_at 2 8 r) ++ x ≡ drop 2 r
  device-fields x h e =
      ap (λ (l : List ℕ). l ++ x) (number_part r 2 8 h bs)
      ∙ ap (λ (l : List ℕ). part 2 8 r ++ l) e
      ∙ part_and_rest r 2 8 10 refl

  -- the last byte
  last_byte : (at : ℕ) → length r ≡ suc at → get_or r at 0 ∷ [] ≡ drop at r
  last_byte at e = ap (λ (l : List ℕ). get_or r at 0 ∷ l) (sym (nothing_behind r (suc at) e)) ∙ byte_and_rest r at (omega (arith, e))

flag_back : (b : ℕ) → is_flag b ≡ true → flag (eqb b 1) ≡ b
flag_back b h = by_bit (λ n. flag (eqb n 1) ≡ n) refl refl b (ltb-true b 2 h)

-- an event whose kind is k, and whose fields are what stands behind the kind byte
abbrev Behind : Kind → Event → List ℕ → Type 0
Behind k e r = (kind_of e ≡ k) × (fields e ≡ drop 2 r)

written : (k : Kind) (e : Event) (r : List ℕ) → Begins k r → Behind k e r → body e ≡ r
unfolding body
written k e r b (p, q) =
    ap (λ (j : Kind). 0x01 ∷ kind_byte j ∷ fields e) p ∙ ap (λ (l : List ℕ). 0x01 ∷ kind_byte k ∷ l) q ∙ b

-- a record of n bytes behind the clock
module _ (r : List ℕ) (bs : All IsByte r) where
  on-link-end : (e : LinkEvent) → 11 ≤ length r → on_link_fields e ≡ drop 11 r → fields (link_event r e) ≡ drop 2 r
  on-link-end e h p = link-fields r bs (on_link_fields e) h p

  sized-at : (n : ℕ) → eqb (length r) n ≡ true → length r ≡ n
  sized-at n h = eqb-true (length r) n h

  link_up : (k : Kind) (e : LinkEvent) → kind_of (link_event r e) ≡ k → on_link_fields e ≡ [] → eqb (length r) 11 ≡ true → Behind k (link_event r e) r
  link_up k e p q h =
      let n = sized-at 11 h in
      (p, on-link-end e (omega (arith, n)) (q ∙ sym (nothing_behind r 11 n)))

  pairing-mode : (eqb (length r) 11 and is_flag (get_or r 10 0)) ≡ true
      → Behind kind.PairingMode (OnDevice (number_at 2 8 r) (PairingMode (eqb (get_or r 10 0) 1))) r
  pairing-mode h =
      let n = sized-at 11 (and_left (eqb (length r) 11) (is_flag (get_or r 10 0)) h) in
      let b = flag_back (get_or r 10 0) (and_right (eqb (length r) 11) (is_flag (get_or r 10 0)) h) in
      (refl, device-fields r bs _ (omega (arith, n)) (ap (λ x. x ∷ []) b ∙ last_byte r bs 10 n))

  address-rotated : eqb (length r) 18 ≡ true
      → Behind kind.AddressRotated (OnDevice (number_at 2 8 r) (AddressRotated (record { bytes = part 10 6 r }) (part 16 2 r))) r
  address-rotated h =
      let n = sized-at 18 h in
      let salt : part 16 2 r ≡ drop 16 r = last_field r 16 2 n in
      (refl, device-fields r bs _ (omega (arith, n)) (ap (λ (l : List ℕ). part 10 6 r ++ l) salt ∙ part_and_rest r 10 6 16 refl))

  factory-reset : eqb (length r) 10 ≡ true → Behind kind.FactoryReset (OnDevice (number_at 2 8 r) FactoryReset) r
  factory-reset h =
      let n = sized-at 10 h in
      (refl, device-fields r bs [] (omega (arith, n)) (sym (nothing_behind r 10 n)))

  pairing-started : eqb (length r) 12 ≡ true → Behind kind.PairingStarted (link_event r (OnSession (PairingStarted (get_or r 11 0)))) r
  pairing-started h =
      let n = sized-at 12 h in
      (refl, on-link-end (OnSession (PairingStarted (get_or r 11 0))) (omega (arith, n)) (last_byte r bs 11 n))

  confirmation-needed : eqb (length r) 15 ≡ true
      → Behind kind.ConfirmationNeeded (link_event r (OnSession (ConfirmationNeeded (number_at 11 4 r)))) r
  confirmation-needed h =
      let n = sized-at 15 h in (
        refl,
        on-link-end (OnSession (ConfirmationNeeded (number_at 11 4 r))) (omega (arith, n))
            (number_part r 11 4 (omega (arith, n)) bs ∙ last_field r 11 4 n),
      )

  pairing-ended : (eqb (length r) 12 and is_flag (get_or r 11 0)) ≡ true
      → Behind kind.PairingEnded (link_event r (OnSession (PairingEnded (eqb (get_or r 11 0) 1)))) r
  pairing-ended h =
      let n = sized-at 12 (and_left (eqb (length r) 12) (is_flag (get_or r 11 0)) h) in
      let b = flag_back (get_or r 11 0) (and_right (eqb (length r) 12) (is_flag (get_or r 11 0)) h) in
      (refl, on-link-end (OnSession (PairingEnded (eqb (get_or r 11 0) 1))) (omega (arith, n)) (ap (λ x. x ∷ []) b ∙ last_byte r bs 11 n))

  to_the_end : (k : Kind) (e : LinkEvent) → kind_of (link_event r e) ≡ k → on_link_fields e ≡ drop 11 r → leb 11 (length r) ≡ true → Behind k (link_event r e) r
  to_the_end k e p q h = (p, on-link-end e (leb-true 11 (length r) h) q)

-- 20 bytes behind the block
module _ (r : List ℕ) (bs : All IsByte r) (at : ℕ) (n : length r ≡ at + 20) (m : 11 ≤ at) where
  passkey-length : bytes 8 (length (zeros (number_at (at + 12) 8 r))) ≡ drop (at + 12) r
  passkey-length =
      ap (bytes 8) (length-replicate (number_at (at + 12) 8 r) 0)
      ∙ number_part r (at + 12) 8 (omega (arith, n)) bs
      ∙ last_field r (at + 12) 8 (omega (arith, n))

  passkey-back : fields (link_event r (passkey_fields at r)) ≡ drop 2 r
  passkey-back =
      on-link-end r bs (passkey_fields at r) (omega (arith, n, m))
      (append_assoc (part 11 (at - 11) r) (part at 12 r) (bytes 8 (length (zeros (number_at (at + 12) 8 r))))
      ∙ ap (λ (l : List ℕ). part 11 (at - 11) r ++ (part at 12 r ++ l)) passkey-length
      ∙ ap (λ (l : List ℕ). part 11 (at - 11) r ++ l) (part_and_rest r at 12 (at + 12) refl)
      ∙ part_and_rest r 11 (at - 11) at (omega (arith, m)))

passkey_write_lem : (r : List ℕ) → All IsByte r → leb 31 (length r) ≡ true
    → Behind kind.PasskeyWrite (link_event r (passkey_fields (length r - 20) r)) r
passkey_write_lem r bs h =
    let long = leb-true 31 (length r) h in
    (refl, passkey-back r bs (length r - 20) (omega (arith, long)) (omega (arith, long)))

-- ---- key-based write

-- 66 bytes behind the request
module _ (r : List ℕ) (bs : All IsByte r) (at : ℕ) (n : length r ≡ at + 66) (m : 11 ≤ at) (fl : is_flag (get_or r at 0) ≡ true) (el : is_element_at at r ≡ true) where
  abbrev e : Option (List ℕ)
  e = element_at at r

  abbrev o : List ℕ
  o = zeros (number_at (at + 50) 8 r)

  abbrev q : List ℕ
  q = zeros (number_at (at + 58) 8 r)

  accepted-back : (accepted : Bool) (s : List ℕ) → is_some (secret_if accepted s) ≡ accepted
  accepted-back true s = refl
  accepted-back false s = refl

  -- a rejected point's secret is zeros
  secret-back : (accepted : Bool) (s : List ℕ) → is_element accepted s ≡ true → secret_of (secret_if accepted s) ≡ s
  secret-back true s h = refl
  secret-back false s h = sym (same_eq s (zeros 32) h)

  element-back : element_bytes e ++ drop (at + 33) r ≡ drop at r
  element-back =
      let next : at + 1 ≡ suc at = omega arith in
      ap (λ x. flag x ∷ (secret_of e ++ drop (at + 33) r)) (accepted-back (eqb (get_or r at 0) 1) (part (at + 1) 32 r))
      ∙ ap (λ x. x ∷ (secret_of e ++ drop (at + 33) r)) (flag_back (get_or r at 0) fl)
      ∙ ap (λ (l : List ℕ). get_or r at 0 ∷ (l ++ drop (at + 33) r)) (secret-back (eqb (get_or r at 0) 1) (part (at + 1) 32 r) el)
      ∙ ap (λ (l : List ℕ). get_or r at 0 ∷ l) (part_and_rest r (at + 1) 32 (at + 33) (omega arith))
      ∙ ap (λ i. get_or r at 0 ∷ drop i r) next
      ∙ byte_and_rest r at (omega (arith, n))

  length_back : (j : ℕ) → at + j + 8 ≤ length r → bytes 8 (length (zeros (number_at (at + j) 8 r))) ≡ part (at + j) 8 r
  length_back j h = ap (bytes 8) (length-replicate (number_at (at + j) 8 r) 0) ∙ number_part r (at + j) 8 h bs

  tail-back : element_bytes e ++ (part (at + 33) 9 r ++ (part (at + 42) 8 r ++ (bytes 8 (length o) ++ bytes 8 (length q)))) ≡ drop at r
  tail-back =
      ap (λ (l : List ℕ). element_bytes e ++ (part (at + 33) 9 r ++ (part (at + 42) 8 r ++ l)))
      ((λ i. length_back 50 (omega (arith, n)) i ++ length_back 58 (omega (arith, n)) i)
      ∙ ap (λ (l : List ℕ). part (at + 50) 8 r ++ l) (last_field r (at + 58) 8 (omega (arith, n)))
      ∙ part_and_rest r (at + 50) 8 (at + 58) (omega arith))
      ∙ ap (λ (l : List ℕ). element_bytes e ++ (part (at + 33) 9 r ++ l)) (part_and_rest r (at + 42) 8 (at + 50) (omega arith))
      ∙ ap (λ (l : List ℕ). element_bytes e ++ l) (part_and_rest r (at + 33) 9 (at + 42) (omega arith))
      ∙ element-back

  key-based-back : fields (link_event r (key_based_fields at r)) ≡ drop 2 r
  key-based-back =
      on-link-end r bs (key_based_fields at r) (omega (arith, n, m))
      (append_assoc (part 11 (at - 11) r ++ element_bytes e ++ part (at + 33) 9 r ++ part (at + 42) 8 r) (bytes 8 (length o)) (bytes 8 (length q))
      ∙ append_assoc (part 11 (at - 11) r ++ element_bytes e ++ part (at + 33) 9 r) (part (at + 42) 8 r) (bytes 8 (length o) ++ bytes 8 (length q))
      ∙ append_assoc (part 11 (at - 11) r ++ element_bytes e) (part (at + 33) 9 r) (part (at + 42) 8 r ++ (bytes 8 (length o) ++ bytes 8 (length q)))
      ∙ append_assoc (part 11 (at - 11) r) (element_bytes e) (part (at + 33) 9 r ++ (part (at + 42) 8 r ++ (bytes 8 (length o) ++ bytes 8 (length q))))
      ∙ ap (λ (l : List ℕ). part 11 (at - 11) r ++ l) tail-back
      ∙ part_and_rest r 11 (at - 11) at (omega (arith, m)))

key_based_write : (r : List ℕ) → All IsByte r
    → (leb 77 (length r) and is_flag (get_or r (length r - 66) 0) and is_element_at (length r - 66) r) ≡ true
    → Behind kind.KeyBasedWrite (link_event r (key_based_fields (length r - 66) r)) r
key_based_write r bs h =
    let at = length r - 66 in
    let long = leb-true 77 (length r) (and_left (leb 77 (length r)) (is_flag (get_or r at 0) and is_element_at at r) h) in
    let good = and_right (leb 77 (length r)) (is_flag (get_or r at 0) and is_element_at at r) h in (
      refl,
      key-based-back r bs at (omega (arith, long)) (omega (arith, long))
          (and_left (is_flag (get_or r at 0)) (is_element_at at r) good)
          (and_right (is_flag (get_or r at 0)) (is_element_at at r) good),
    )

-- ---- power-on

module _ (r : List ℕ) (bs : All IsByte r) (n : 21 + list_length r ≤ length r) where
  abbrev len : ℕ
  len = list_length r

  abbrev s : Start
  s = start_at (4 + len) r

  start_back : start_bytes s ++ drop (21 + len) r ≡ drop (4 + len) r
  start_back =
      append_assoc (part (4 + len) 6 r ++ part (4 + len + 6) 6 r ++ part (4 + len + 12) 3 r) (part (4 + len + 15) 2 r) (drop (21 + len) r)
      ∙ append_assoc (part (4 + len) 6 r ++ part (4 + len + 6) 6 r) (part (4 + len + 12) 3 r) (part (4 + len + 15) 2 r ++ drop (21 + len) r)
      ∙ append_assoc (part (4 + len) 6 r) (part (4 + len + 6) 6 r) (part (4 + len + 12) 3 r ++ (part (4 + len + 15) 2 r ++ drop (21 + len) r))
      ∙ ap (λ (l : List ℕ). part (4 + len) 6 r ++ (part (4 + len + 6) 6 r ++ (part (4 + len + 12) 3 r ++ l))) (part_and_rest r (4 + len + 15) 2 (21 + len) (omega arith))
      ∙ ap (λ (l : List ℕ). part (4 + len) 6 r ++ (part (4 + len + 6) 6 r ++ l)) (part_and_rest r (4 + len + 12) 3 (4 + len + 15) (omega arith))
      ∙ ap (λ (l : List ℕ). part (4 + len) 6 r ++ l) (part_and_rest r (4 + len + 6) 6 (4 + len + 12) (omega arith))
      ∙ part_and_rest r (4 + len) 6 (4 + len + 6) (omega arith)

  power-on-back : fields (PowerOn (part 4 len r) (drop (21 + len) r) s) ≡ drop 2 r
  power-on-back =
      append_assoc (bytes 2 (length (part 4 len r)) ++ part 4 len r) (start_bytes s) (drop (21 + len) r)
      ∙ append_assoc (bytes 2 (length (part 4 len r))) (part 4 len r) (start_bytes s ++ drop (21 + len) r)
      ∙ ap (λ (l : List ℕ). bytes 2 (length (part 4 len r)) ++ (part 4 len r ++ l)) start_back
      ∙ ap (λ (l : List ℕ). bytes 2 (length (part 4 len r)) ++ l) (part_and_rest r 4 len (4 + len) refl)
      ∙ ap (λ i. bytes 2 i ++ drop 4 r) (length_part r 4 len (omega (arith, n)))
      ∙ ap (λ (l : List ℕ). l ++ drop 4 r) (number_part r 2 2 (omega (arith, n)) bs)
      ∙ part_and_rest r 2 2 4 refl

-- ---- every record

read_written : (k : Kind) (r : List ℕ) → All IsByte r → Begins k r → (read_as k r ≡ Overflow) ⊎ (body (read_as k r) ≡ r)
unfolding read_as read_power_on read_key_based_write read_passkey_write
read_written kind.Marker r bs b = inl refl
read_written kind.LinkUp r bs b =
    marker_or _ _ r (λ h. written kind.LinkUp _ r b (link_up r bs kind.LinkUp LinkUp refl refl h))
read_written kind.LinkDown r bs b =
    marker_or _ _ r (λ h. written kind.LinkDown _ r b (link_up r bs kind.LinkDown LinkDown refl refl h))
read_written kind.PairingMode r bs b = marker_or _ _ r (λ h. written kind.PairingMode _ r b (pairing-mode r bs h))
read_written kind.AddressRotated r bs b = marker_or _ _ r (λ h. written kind.AddressRotated _ r b (address-rotated r bs h))
read_written kind.PowerOn r bs b =
    marker_or _ _ r (λ h. written kind.PowerOn _ r b (refl, power-on-back r bs (leb-true (21 + list_length r) (length r) h)))
read_written kind.FactoryReset r bs b = marker_or _ _ r (λ h. written kind.FactoryReset _ r b (factory-reset r bs h))
read_written kind.KeyBasedWrite r bs b = marker_or _ _ r (λ h. written kind.KeyBasedWrite _ r b (key_based_write r bs h))
read_written kind.PairingStarted r bs b = marker_or _ _ r (λ h. written kind.PairingStarted _ r b (pairing-started r bs h))
read_written kind.ConfirmationNeeded r bs b =
    marker_or _ _ r (λ h. written kind.ConfirmationNeeded _ r b (confirmation-needed r bs h))
read_written kind.PasskeyWrite r bs b = marker_or _ _ r (λ h. written kind.PasskeyWrite _ r b (passkey_write_lem r bs h))
read_written kind.PairingEnded r bs b = marker_or _ _ r (λ h. written kind.PairingEnded _ r b (pairing-ended r bs h))
read_written kind.AccountKeyWrite r bs b =
    marker_or _ _ r (λ h. written kind.AccountKeyWrite _ r b (to_the_end r bs kind.AccountKeyWrite (OnSession (AccountKeyWrite (drop 11 r))) refl refl h))
read_written kind.NameWrite r bs b =
    marker_or _ _ r (λ h. written kind.NameWrite _ r b (to_the_end r bs kind.NameWrite (OnSession (NameWrite (drop 11 r))) refl refl h))

marker_read : (r : List ℕ) {k : Kind} → k ≡ kind.Marker → read_as k r ≡ Overflow
unfolding read_as
marker_read r e = ap (λ (j : Kind). read_as j r) e

-- version and kind of a record that is not refused for them
begins : (r : List ℕ) → (ltb (length r) 2 or ltb 1024 (length r) or not (eqb (get_or r 0 0) 0x01)) ≡ false
    → kind_byte (kind_in (get_or r 1 0)) ≡ get_or r 1 0 → Begins (kind_in (get_or r 1 0)) r
begins r h p =
    let long = ltb-false (length r) 2 (or_false_left (ltb (length r) 2) (ltb 1024 (length r) or not (eqb (get_or r 0 0) 0x01)) h) in
    let others = or_false_right (ltb (length r) 2) (ltb 1024 (length r) or not (eqb (get_or r 0 0) 0x01)) h in
    let version = eqb-true (get_or r 0 0) 0x01 (not-false (eqb (get_or r 0 0) 0x01) (or_false_right (ltb 1024 (length r)) (not (eqb (get_or r 0 0) 0x01)) others)) in
    (λ i. sym version i ∷ p i ∷ drop 2 r)
    ∙ ap (λ (l : List ℕ). get_or r 0 0 ∷ l) (byte_and_rest r 1 (omega (arith, long)))
    ∙ byte_and_rest r 0 (omega (arith, long))

pub only_records : OnlyRecordsRead
unfolding kind_read
only_records r bs = by-test (ltb (length r) 2 or ltb 1024 (length r) or not (eqb (get_or r 0 0) 0x01)) refl
  where
    by_kind : (h : (ltb (length r) 2 or ltb 1024 (length r) or not (eqb (get_or r 0 0) 0x01)) ≡ false)
        → ((kind_in (get_or r 1 0) ≡ kind.Marker) ⊎ (kind_byte (kind_in (get_or r 1 0)) ≡ get_or r 1 0))
        → (read_as (kind_in (get_or r 1 0)) r ≡ Overflow) ⊎ (body (read_as (kind_in (get_or r 1 0)) r) ≡ r)
    by_kind h (inl e) = inl (marker_read r e)
    by_kind h (inr e) = read_written (kind_in (get_or r 1 0)) r bs (begins r h e)

    by-test : (t : Bool) → (ltb (length r) 2 or ltb 1024 (length r) or not (eqb (get_or r 0 0) 0x01)) ≡ t
        → (read_as (if t then kind.Marker else kind_in (get_or r 1 0)) r ≡ Overflow)
        ⊎ (body (read_as (if t then kind.Marker else kind_in (get_or r 1 0)) r) ≡ r)
    by-test true h = inl (marker_read r refl)
    by-test false h = by_kind h (among (get_or r 1 0) kinds)
