-- Laws of the replay: the fields of a record, a record that is refused or taken, and the event of a record.
-- Assumes nothing.
use mathlib.Core.Bool.{Bool, true, false}
use mathlib.Core.List.{List, [], ◌∷◌}
use mathlib.Core.Logic.{◌⊎◌, inl, inr}
use mathlib.Core.Path.{◌≡◌, refl, sym, ap, ◌∙◌}
use Prim.Native.Nat.{ℕ, ◌+◌, ◌-◌, ◌<◌, ◌≤◌, min}
use native.Mathlib.Omega.{arith}
use lib.Dec.{eqb, leb}
use lib.ListN.{length, take, drop, get_or, length-drop, take-append-drop}
use lib.Seq.{drop-drop, drop-cons, length-take-le}
use borrow.Author.Tests.{eq-eqb, ne_eqb, le-leb, lt-leb}
use Rattle.std.proofs.lemmas.List.{get_or-drop}
use Rattle.std.specs.Int.{Width, w16, byte_len, from_be_bytes}
use Rattle.std.specs.Prelude.{Option, Some, None}
use Rattle.laws.proofs.BigEndian.{be_number}
use Rattle.laws.proofs.Lists.{take_drop_rest}
use Rattle.laws.specs.BigEndian.{number}
use Rattle.laws.specs.Choice.{◌and◌}
use Rattle.pairing.specs.Pairing.{PairingStarted, ConfirmationNeeded, PasskeyWrite, PairingEnded, AccountKeyWrite, NameWrite}
use Rattle.provider.specs.Rules.Event.{Event, Overflow, PowerOn, OnDevice, OnLink, DeviceEvent, PairingMode, AddressRotated, FactoryReset, LinkEvent, LinkUp, LinkDown, KeyBasedWrite, OnSession, step}
use Rattle.provider.specs.declared.Device.{Device}
use Rattle.provider.specs.declared.Outcome.{Outcome}
use Rattle.provider.specs.declared.Start.{Start}
use Rattle.recording.proofs.Fields.{length_part, part_within}
use Rattle.recording.specs.Layout.{kind_of}
use Rattle.recording.specs.Reading.{part, number_at, is_flag, zeros, or_marker, link_event, list_length, start_at, element_at, is_element_at, key_based_fields, passkey_fields, event_in, kind_read, read_as, read_power_on, read_passkey_write, read_key_based_write}
use Rattle.recording.specs.declared.Kind.{Kind}
use Rattle.recording.specs.declared.Kind.TheVariants as kind
use Rattle.replay_events.proofs.LentOutputs.{passkey_write_gives, key_based_write_gives, same_response_room, same_outputs_room}
use Rattle.replay_events.specs.Played.{played, outcome_of}

-- ---- the fields of a record

-- a number in the library's big-endian order
pub number_is : (w : Width) (r : List ℕ) (at : ℕ) {l : List ℕ} {x : ℕ} → at + byte_len w ≤ length r → l ≡ part at (byte_len w) r
    → x ≡ from_be_bytes w l → x ≡ number_at at (byte_len w) r
number_is w r at {l} h p q = q ∙ be_number w l (ap length p ∙ length_part r at (byte_len w) h) ∙ ap number p

-- f is what stands behind k bytes of r
module _ (r : List ℕ) (k : ℕ) {f : List ℕ} (e : f ≡ drop k r) where
  pub length_behind : k ≤ length r → length f + k ≡ length r
  length_behind h = omega (arith, ap length e, length-drop k r)

  pub field_at : (a n at : ℕ) → at ≡ k + a → take n (drop a f) ≡ part at n r
  field_at a n at p = ap (λ (x : List ℕ). take n (drop a x)) e ∙ ap (take n) (drop-drop a k r) ∙ ap (λ (j : ℕ). part j n r) (sym p)

  pub byte_at : (a at : ℕ) → at ≡ k + a → get_or f a 0 ≡ get_or r at 0
  byte_at a at p =
      ap (λ (x : List ℕ). get_or x a 0) e ∙ get_or-drop k r a 0 ∙ ap (λ (j : ℕ). get_or r j 0) (sym p)

  -- its last m bytes
  pub last_of : (m : ℕ) {t : List ℕ} → k + m ≤ length r → t ≡ drop (length f - m) f → t ≡ drop (length r - m) r
  last_of m h q =
      let long = length_behind (omega (arith, h)) in
      let place : k + (length f - m) ≡ length r - m = omega (arith, long, h) in
      q ∙ ap (drop (length f - m)) e ∙ drop-drop (length f - m) k r ∙ ap (λ (j : ℕ). drop j r) place

  -- and what is before them
  pub before_last : (m : ℕ) {b : List ℕ} → k + m ≤ length r → b ≡ take (length f - m) f → b ≡ part k (length r - m - k) r
  before_last m h q =
      let long = length_behind (omega (arith, h)) in
      let size : length f - m ≡ length r - m - k = omega (arith, long, h) in
      q ∙ ap (take (length f - m)) e ∙ ap (λ (j : ℕ). part k j r) size

-- a chunk of n bytes behind k bytes, and what is behind it
pub chunk_is : (r : List ℕ) (k n : ℕ) {a b : List ℕ} → k ≤ length r
    → (a ≡ take n (take (length r - k) (drop k r))) × (b ≡ drop n (take (length r - k) (drop k r)))
    × (length b + n ≡ length (take (length r - k) (drop k r)))
    → (k + n ≤ length r) × (a ≡ part k n r) × (b ≡ drop (k + n) r)
chunk_is r k n h (p, q, l) = (
  omega (arith, rw (take_drop_rest k r) at l, length-drop k r, h),
  p ∙ ap (take n) (take_drop_rest k r),
  q ∙ ap (drop n) (take_drop_rest k r) ∙ drop-drop n k r,
)

-- the length of the stored list is in two bytes
pub list_length_is : (r : List ℕ) {x : ℕ} → 4 ≤ length r → x ≡ from_be_bytes w16 (get_or r 2 0 ∷ get_or r 3 0 ∷ []) → x ≡ list_length r
list_length_is r h p =
    let two : take 2 (drop 2 r) ≡ get_or r 2 0 ∷ get_or r 3 0 ∷ [] =
    rw (drop-cons r 2 0 (omega (arith, h)), drop-cons r 3 0 (omega (arith, h)))
    in
    p ∙ be_number w16 (get_or r 2 0 ∷ get_or r 3 0 ∷ []) refl ∙ ap number (sym two)

-- what is read from the first m bytes alone
within_first : (l : List ℕ) (m at n : ℕ) → m ≤ length l → at + n ≤ m → part at n (take m l) ≡ part at n l
within_first l m at n h k =
    sym (part_within (take m l) (drop m l) at n (omega (arith, length-take-le m l h, k))) ∙ ap (part at n) (take-append-drop m l)

-- addresses, model ID and salt from a place on
pub start_is : (r : List ℕ) (at : ℕ) {b : List ℕ} → at + 17 ≤ length r → b ≡ take 17 (drop at r) → start_at 0 b ≡ start_at at r
start_is r at {b} h p =
    let long : 17 ≤ length (drop at r) = omega (arith, length-drop at r, h) in
    let here : (a n to : ℕ) → a + n ≤ 17 → to ≡ at + a → part a n b ≡ part to n r =
    λ a n to k q. ap (part a n) p ∙ within_first (drop at r) 17 a n long k ∙ field_at r at refl a n to q
    in
    λ i. record {
      identity = record {
        public = record { bytes = here 6 6 (at + 6) (omega arith) refl i };
        model = here 12 3 (at + 12) (omega arith) refl i;
      };
      ble = record { bytes = here 0 6 at (omega arith) (omega arith) i };
      salt = here 15 2 (at + 15) (omega arith) refl i;
    }

-- ---- the tests of a record

-- its size, by that of the n fields behind k bytes
module _ (r : List ℕ) (k n : ℕ) {f : List ℕ} (h : k ≤ length r) (e : f ≡ drop k r) where
  pub exact : length f ≡ n → eqb (length r) (k + n) ≡ true
  exact p = eq-eqb (length r) (k + n) (omega (arith, length_behind r k e h))

  pub inexact : (length f ≡ n → ⊥) → eqb (length r) (k + n) ≡ false
  inexact p = ne_eqb (length r) (k + n) (λ q. p (omega (arith, length_behind r k e h, q)))

pub too_short : (r : List ℕ) (k n : ℕ) → length r < k → k ≤ n → eqb (length r) n ≡ false
too_short r k n h p = ne_eqb (length r) n (λ q. omega (arith, h, q))

-- its size and a flag
pub not_sized : {sized : Bool} (flagged : Bool) → sized ≡ false → (sized and flagged) ≡ false
not_sized flagged h = rw h

pub not_flagged : {sized flagged : Bool} → sized ≡ true → flagged ≡ false → (sized and flagged) ≡ false
not_flagged h k = rw (h, k)

pub both : {sized flagged : Bool} → sized ≡ true → flagged ≡ true → (sized and flagged) ≡ true
both h k = rw (h, k)

-- a key-based write: its size, its flag and its element
module _ (r : List ℕ) where
  abbrev is_request : Bool
  is_request = leb 77 (length r) and is_flag (get_or r (length r - 66) 0) and is_element_at (length r - 66) r

  pub request_short : length r < 77 → is_request ≡ false
  request_short h = rw (lt-leb 77 (length r) h)

  module _ (h : 77 ≤ length r) where
    pub request_no_flag : is_flag (get_or r (length r - 66) 0) ≡ false → is_request ≡ false
    request_no_flag k = rw (le-leb 77 (length r) h, k)

    module _ (k : is_flag (get_or r (length r - 66) 0) ≡ true) where
      pub request_no_element : is_element_at (length r - 66) r ≡ false → is_request ≡ false
      request_no_element e = rw (le-leb 77 (length r) h, k) e

      pub request_whole : is_element_at (length r - 66) r ≡ true → is_request ≡ true
      request_whole e = rw (le-leb 77 (length r) h, k) e

-- ---- an event that the device was given

module _ (d : Device) where
  -- a record that is refused is a marker, and one that is taken is its event
  module _ (e : Event) {good : Bool} {o : Option Outcome} where
    pub refused : good ≡ false → o ≡ None → o ≡ outcome_of d (or_marker good e)
    refused h q = rw h q

    pub taken : good ≡ true → o ≡ outcome_of d e → o ≡ outcome_of d (or_marker good e)
    taken h q = rw h q

  -- with the record's list, name and start; n is the length of the list
  pub given_power_on : (r : List ℕ) {n : ℕ} {stored name : List ℕ} {start : Start} {o : Outcome} → n ≡ list_length r
      → stored ≡ part 4 n r
      → name ≡ drop (21 + n) r
      → start ≡ start_at (4 + n) r
      → o ≡ (step d (PowerOn stored name start)).gives
      → Some o ≡ outcome_of d (PowerOn (part 4 (list_length r) r) (drop (21 + list_length r) r) (start_at (4 + list_length r) r))
  given_power_on r p s n b g =
      ap Some (g ∙ (λ i. (step d (PowerOn (s i) (n i) (b i))).gives)
      ∙ ap (λ (m : ℕ). (step d (PowerOn (part 4 m r) (drop (21 + m) r) (start_at (4 + m) r))).gives) p)

  -- on the record's clock
  pub given_on_device : (r : List ℕ) {t : ℕ} → t ≡ number_at 2 8 r → (e : DeviceEvent) {f : DeviceEvent} {o : Outcome} → f ≡ e
      → o ≡ (step d (OnDevice t f)).gives → Some o ≡ outcome_of d (OnDevice (number_at 2 8 r) e)
  given_on_device r clock e p q = ap Some (q ∙ (λ i. (step d (OnDevice (clock i) (p i))).gives))

  -- on the record's link, at its clock
  module _ (r : List ℕ) {l t : ℕ} (link : l ≡ get_or r 2 0) (clock : t ≡ number_at 3 8 r) where
    pub given_on_link : (e : LinkEvent) {f : LinkEvent} {o : Outcome} → f ≡ e → o ≡ (step d (OnLink l t f)).gives
        → Some o ≡ outcome_of d (link_event r e)
    given_on_link e p q = ap Some (q ∙ (λ i. (step d (OnLink (link i) (clock i) (p i))).gives))

    -- the writes that lend outputs: these are no longer than is asked for
    module _ (at : ℕ) {o : Outcome} where
      pub given_passkey_write : {block salt : List ℕ} {n k : ℕ} → block ≡ part 11 (at - 11) r → salt ≡ part at 12 r
          → n ≡ number_at (at + 12) 8 r
          → k ≡ min n 16
          → o ≡ (step d (OnLink l t (OnSession (PasskeyWrite block salt (take k (zeros 16)))))).gives
          → Some o ≡ outcome_of d (link_event r (passkey_fields at r))
      given_passkey_write {block} {salt} {n} {k} b e p q g =
          let recorded = number_at (at + 12) 8 r in
          let room = same_response_room (zeros 16) recorded refl (rw p at q) in
          given_on_link (passkey_fields at r) (λ i. OnSession (PasskeyWrite (b i) (e i) (zeros recorded)))
          (g ∙ passkey_write_gives d l t block salt (take k (zeros 16)) (zeros recorded) room)

      pub given_key_based_write : {request : List ℕ} {element : Option (List ℕ)} {salt nonce : List ℕ} {n m j k : ℕ}
          → request ≡ part 11 (at - 11) r
          → element ≡ element_at at r
          → salt ≡ part (at + 33) 9 r
          → nonce ≡ part (at + 42) 8 r
          → n ≡ number_at (at + 50) 8 r
          → j ≡ min n 16
          → m ≡ number_at (at + 58) 8 r
          → k ≡ min m 80
          → o
          ≡ (step d (OnLink l t
          (KeyBasedWrite request element salt nonce (take j (zeros 16)) (take k (zeros 80))))).gives
          → Some o ≡ outcome_of d (link_event r (key_based_fields at r))
      given_key_based_write {request} {element} {salt} {nonce} {n} {m} {j} {k} b e f h p q u v g =
          let response = number_at (at + 50) 8 r in
          let sent = number_at (at + 58) 8 r in
          let room = same_outputs_room (zeros 16) (zeros 80) response sent refl (rw p at q) refl (rw u at v) in
          given_on_link (key_based_fields at r) (λ i. KeyBasedWrite (b i) (e i) (f i) (h i) (zeros response) (zeros sent))
          (g ∙ key_based_write_gives d l t request element salt nonce (take j (zeros 16)) (take k (zeros 80))
          (zeros response) (zeros sent) room)

-- ---- the kind of an event

-- what a record is read as has the record's kind, or is a marker
abbrev Kept : Kind → Event → Type 0
Kept k e = (kind_of e ≡ k) ⊎ (e ≡ Overflow)

kept : (k : Kind) (good : Bool) (e : Event) → kind_of e ≡ k → Kept k (or_marker good e)
kept k true e p = inl p
kept k false e p = inr refl

kept_kind : (k : Kind) (r : List ℕ) → Kept k (read_as k r)
unfolding read_as read_power_on read_passkey_write read_key_based_write
kept_kind kind.Marker r = inr refl
kept_kind kind.LinkUp r =
    kept kind.LinkUp (eqb (length r) 11) (link_event r LinkUp) refl
kept_kind kind.LinkDown r =
    kept kind.LinkDown (eqb (length r) 11) (link_event r LinkDown) refl
kept_kind kind.PairingMode r =
    kept kind.PairingMode (eqb (length r) 11 and is_flag (get_or r 10 0)) (OnDevice (number_at 2 8 r) (PairingMode (eqb (get_or r 10 0) 1))) refl
kept_kind kind.AddressRotated r =
    kept kind.AddressRotated (eqb (length r) 18) (OnDevice (number_at 2 8 r) (AddressRotated (record { bytes = part 10 6 r }) (part 16 2 r))) refl
kept_kind kind.PowerOn r =
    kept kind.PowerOn (leb (21 + list_length r) (length r)) (PowerOn (part 4 (list_length r) r) (drop (21 + list_length r) r) (start_at (4 + list_length r) r)) refl
kept_kind kind.FactoryReset r =
    kept kind.FactoryReset (eqb (length r) 10) (OnDevice (number_at 2 8 r) FactoryReset) refl
kept_kind kind.KeyBasedWrite r =
    kept kind.KeyBasedWrite (is_request r) (link_event r (key_based_fields (length r - 66) r)) refl
kept_kind kind.PairingStarted r =
    kept kind.PairingStarted (eqb (length r) 12) (link_event r (OnSession (PairingStarted (get_or r 11 0)))) refl
kept_kind kind.ConfirmationNeeded r =
    kept kind.ConfirmationNeeded (eqb (length r) 15) (link_event r (OnSession (ConfirmationNeeded (number_at 11 4 r)))) refl
kept_kind kind.PasskeyWrite r =
    kept kind.PasskeyWrite (leb 31 (length r)) (link_event r (passkey_fields (length r - 20) r)) refl
kept_kind kind.PairingEnded r =
    kept kind.PairingEnded (eqb (length r) 12 and is_flag (get_or r 11 0)) (link_event r (OnSession (PairingEnded (eqb (get_or r 11 0) 1)))) refl
kept_kind kind.AccountKeyWrite r =
    kept kind.AccountKeyWrite (leb 11 (length r)) (link_event r (OnSession (AccountKeyWrite (drop 11 r)))) refl
kept_kind kind.NameWrite r =
    kept kind.NameWrite (leb 11 (length r)) (link_event r (OnSession (NameWrite (drop 11 r)))) refl

module _ (d : Device) where
  given_event : (e : Event) {o : Outcome} → Some o ≡ outcome_of d e → o ≡ (step d e).gives
  given_event Overflow p = cc
  given_event (PowerOn stored name start) p = cc
  given_event (OnDevice t e) p = cc
  given_event (OnLink l t e) p = cc

  kept_event : (k : Kind) (e : Event) {o : Outcome} → Kept k e → Some o ≡ outcome_of d e → record { kind = k; outcome = o } ≡ played d e
  kept_event k e (inl q) p = λ i. record { kind = sym q i; outcome = given_event e p i }
  kept_event k e (inr q) p = absurd (some_marker (p ∙ ap (outcome_of d) q))
    where
      some_marker : {o : Outcome} → Some o ≡ outcome_of d Overflow → ⊥
      some_marker h = cc

  -- the event of a record of kind k
  pub played_event : (r : List ℕ) {k : Kind} {o : Outcome} → k ≡ kind_read r → Some o ≡ outcome_of d (read_as k r)
      → record { kind = k; outcome = o } ≡ played d (event_in r)
  played_event r {k} e p = kept_event k (read_as k r) (kept_kind k r) p ∙ ap (λ (x : Kind). played d (read_as x r)) e
