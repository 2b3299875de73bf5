-- One record: it reads as the event that was written, and only such bytes read as that event.
-- Assumes nothing.
use mathlib.Core.Bool.{Bool, true, false}
use mathlib.Core.List.{List, [], ◌∷◌, ◌++◌, append_assoc}
use mathlib.Core.Path.{◌≡◌, refl, ap, ◌∙◌}
use Prim.Native.Nat.{ℕ, suc, ◌+◌, ◌-◌, ◌<◌, ◌≤◌, ◌^◌}
use native.Mathlib.Omega.{arith}
use lib.ListN.{length, drop, get_or, length-append}
use lib.Dec.{eqb, leb}
use Rattle.laws.specs.Choice.{◌and◌}
use Rattle.std.specs.Option.{is_some}
use Rattle.std.specs.Prelude.{Option, Some, None, IfSome}
use borrow.Author.Tests.{le-ltb, le-leb, eq-eqb}
use Rattle.laws.specs.BigEndian.{bytes, number}
use Rattle.pairing.specs.Pairing.{PairingEvent, PairingStarted, ConfirmationNeeded, PasskeyWrite, PairingEnded, AccountKeyWrite, NameWrite}
use Rattle.provider.specs.Rules.Event.{Event, Overflow, PowerOn, OnDevice, OnLink, DeviceEvent, PairingMode, AddressRotated, FactoryReset, LinkEvent, LinkUp, LinkDown, KeyBasedWrite, OnSession}
use Rattle.provider.specs.declared.Start.{Start}
use Rattle.recording.proofs.Fields.{part_behind, part_here, last_part, part_within, byte_behind, drop_behind}
use Rattle.laws.proofs.Numbers.{number_read}
use Rattle.recording.specs.Layout.{kind_byte, kind_of, kind_on_device, kind_on_link, kind_on_session, fields, body_of, body, flag, secret_of, element_bytes, start_bytes}
use Rattle.recording.specs.Promises.{Fits, FitsStart, FitsOnDevice, FitsOnLink, FitsOnSession, kept, kept_on_link, kept_on_session, RecordReads}
use Rattle.recording.specs.Reading.{list_length, start_at, read_power_on, key_based_fields, read_key_based_write, is_flag, secret_if, is_element, element_at, is_element_at, or_marker, kind_in, kind_read, read_as, read_passkey_write, part, number_at, zeros}
use Rattle.recording.specs.declared.Kind.{Kind}
use Rattle.recording.specs.declared.Kind.TheVariants as kind

kind_in_lem : (k : Kind) → kind_in (kind_byte k) ≡ k
kind_in_lem kind.Marker = refl
kind_in_lem kind.LinkUp = refl
kind_in_lem kind.LinkDown = refl
kind_in_lem kind.PairingMode = refl
kind_in_lem kind.AddressRotated = refl
kind_in_lem kind.PowerOn = refl
kind_in_lem kind.FactoryReset = refl
kind_in_lem kind.KeyBasedWrite = refl
kind_in_lem kind.PairingStarted = refl
kind_in_lem kind.ConfirmationNeeded = refl
kind_in_lem kind.PasskeyWrite = refl
kind_in_lem kind.PairingEnded = refl
kind_in_lem kind.AccountKeyWrite = refl
kind_in_lem kind.NameWrite = refl

kind_read_lem : (k : Kind) (fs : List ℕ) → length (body_of k fs) ≤ 1024 → kind_read (body_of k fs) ≡ k
unfolding kind_read
kind_read_lem k fs h = rw (le-ltb (length (body_of k fs)) 2 (omega arith), le-ltb 1024 (length (body_of k fs)) h) (kind_in_lem k)

-- ---- a clock, a flag and the like, read back

clock_read : (t : ℕ) → t < 2 ^ 64 → number (bytes 8 t) ≡ t
clock_read t h = number_read 8 t h

-- a record whose sizes and values are those of an event
or_marker_lem : {good : Bool} {e e' : Event} → good ≡ true → e ≡ e' → or_marker good e ≡ e'
or_marker_lem {good} {e} {e'} g p = rw g p

all_three : {a b c : Bool} → a ≡ true → b ≡ true → c ≡ true → (a and b and c) ≡ true
all_three p q r = rw (p, q, r) refl

-- version, kind and clock, and before the clock the link
abbrev device_front : Kind → ℕ → List ℕ
device_front k t = 0x01 ∷ kind_byte k ∷ bytes 8 t

abbrev link_front : Kind → ℕ → ℕ → List ℕ
link_front k l t = 0x01 ∷ kind_byte k ∷ l ∷ bytes 8 t

-- what a rotation has behind its clock
module _ (front ble salt : List ℕ) (f : length front ≡ 10) (p : length ble ≡ 6) (q : length salt ≡ 2) where
  abbrev rotated : List ℕ
  rotated = front ++ (ble ++ salt)

  rotated-sized : eqb (length rotated) 18 ≡ true
  rotated-sized =
      let long : length rotated ≡ 18 = rw (length-append front (ble ++ salt), length-append ble salt) (omega (arith, f, p, q)) in
      eq-eqb (length rotated) 18 long

  rotated-ble : part 10 6 rotated ≡ ble
  rotated-ble = part_behind front (ble ++ salt) 10 0 6 (omega (arith, f)) ∙ part_here ble salt 6 p

  rotated-salt : part 16 2 rotated ≡ salt
  rotated-salt =
      part_behind front (ble ++ salt) 16 6 2 (omega (arith, f))
      ∙ part_behind ble salt 6 0 2 (omega (arith, p))
      ∙ last_part salt 2 q

on_device_lem : (t : ℕ) (e : DeviceEvent) → t < 2 ^ 64 → FitsOnDevice e
    → read_as (kind_on_device e) (body_of (kind_on_device e) (fields (OnDevice t e))) ≡ OnDevice t e
unfolding read_as
on_device_lem t (PairingMode true) h f = ap (λ n. OnDevice n (PairingMode true)) (clock_read t h)
on_device_lem t (PairingMode false) h f = ap (λ n. OnDevice n (PairingMode false)) (clock_read t h)
on_device_lem t (AddressRotated ble salt) h (p, q) =
    let front = device_front kind.AddressRotated t in
    let b = rotated-ble front ble.bytes salt refl p q in
    let s = rotated-salt front ble.bytes salt refl p q in
    or_marker_lem (rotated-sized front ble.bytes salt refl p q)
    (λ i. OnDevice (clock_read t h i) (AddressRotated (record { bytes = b i }) (s i)))
on_device_lem t FactoryReset h f = ap (λ n. OnDevice n FactoryReset) (clock_read t h)

-- a block or packet behind the clock
long_enough : (front x : List ℕ) → length front ≡ 11 → leb 11 (length (front ++ x)) ≡ true
long_enough front x f =
    let long : 11 ≤ length (front ++ x) = rw (length-append front x) (omega (arith, f)) in
    le-leb 11 (length (front ++ x)) long

-- what a passkey write has behind its clock
module _ (front block salt : List ℕ) (n : ℕ) (f : length front ≡ 11) (q : length salt ≡ 12) (h : n < 2 ^ 64) where
  abbrev passkeyRecord : List ℕ
  passkeyRecord = front ++ (block ++ salt ++ bytes 8 n)

  passkey-parts : passkeyRecord ≡ front ++ (block ++ (salt ++ bytes 8 n))
  passkey-parts = ap (λ (l : List ℕ). front ++ l) (append_assoc block salt (bytes 8 n))

  passkey-long : length passkeyRecord ≡ length block + 31
  passkey-long =
      rw (passkey-parts, length-append front (block ++ (salt ++ bytes 8 n)), length-append block (salt ++ bytes 8 n), length-append salt (bytes 8 n))
      (omega (arith, f, q))

  passkey-sized : leb 31 (length passkeyRecord) ≡ true
  passkey-sized = le-leb 31 (length passkeyRecord) (omega (arith, passkey-long))

  -- k bytes behind the block
  passkey-behind : (at k m : ℕ) → at ≡ length block + 11 + k → part at m passkeyRecord ≡ part k m (salt ++ bytes 8 n)
  passkey-behind at k m e =
      ap (part at m) passkey-parts
      ∙ part_behind front (block ++ (salt ++ bytes 8 n)) at (length block + k) m (omega (arith, f, e))
      ∙ part_behind block (salt ++ bytes 8 n) (length block + k) k m (omega arith)

  passkey-block : part 11 (length passkeyRecord - 20 - 11) passkeyRecord ≡ block
  passkey-block =
      ap (part 11 (length passkeyRecord - 20 - 11)) passkey-parts
      ∙ part_behind front (block ++ (salt ++ bytes 8 n)) 11 0 (length passkeyRecord - 20 - 11) (omega (arith, f))
      ∙ part_here block (salt ++ bytes 8 n) (length passkeyRecord - 20 - 11) (omega (arith, passkey-long))

  passkey-salt : part (length passkeyRecord - 20) 12 passkeyRecord ≡ salt
  passkey-salt = passkey-behind (length passkeyRecord - 20) 0 12 (omega (arith, passkey-long)) ∙ part_here salt (bytes 8 n) 12 q

  passkey-out : number_at (length passkeyRecord - 20 + 12) 8 passkeyRecord ≡ n
  passkey-out =
      ap number
      (passkey-behind (length passkeyRecord - 20 + 12) 12 8 (omega (arith, passkey-long))
      ∙ part_behind salt (bytes 8 n) 12 0 8 (omega (arith, q))
      ∙ last_part (bytes 8 n) 8 refl)
      ∙ number_read 8 n h

on_session : (l t : ℕ) (e : PairingEvent) → t < 2 ^ 64 → FitsOnSession e
    → read_as (kind_on_session e) (body_of (kind_on_session e) (fields (OnLink l t (OnSession e)))) ≡ OnLink l t (OnSession (kept_on_session e))
unfolding read_as read_passkey_write
on_session l t (PairingStarted capability) h f = ap (λ n. OnLink l n (OnSession (PairingStarted capability))) (clock_read t h)
on_session l t (ConfirmationNeeded passkey) h f =
    let passkey-read = number_read 4 passkey f in
    λ i. OnLink l (clock_read t h i) (OnSession (ConfirmationNeeded (passkey-read i)))
on_session l t (PasskeyWrite block salt out) h (q, k) =
    let front = link_front kind.PasskeyWrite l t in
    let b = passkey-block front block salt (length out) refl q k in
    let s = passkey-salt front block salt (length out) refl q k in
    let o = passkey-out front block salt (length out) refl q k in
    or_marker_lem (passkey-sized front block salt (length out) refl q k)
    (λ i. OnLink l (clock_read t h i) (OnSession (PasskeyWrite (b i) (s i) (zeros (o i)))))
on_session l t (PairingEnded true) h f = ap (λ n. OnLink l n (OnSession (PairingEnded true))) (clock_read t h)
on_session l t (PairingEnded false) h f = ap (λ n. OnLink l n (OnSession (PairingEnded false))) (clock_read t h)
on_session l t (AccountKeyWrite block) h f =
    or_marker_lem (long_enough (link_front kind.AccountKeyWrite l t) block refl)
    (ap (λ n. OnLink l n (OnSession (AccountKeyWrite block))) (clock_read t h))
on_session l t (NameWrite packet) h f =
    or_marker_lem (long_enough (link_front kind.NameWrite l t) packet refl)
    (ap (λ n. OnLink l n (OnSession (NameWrite packet))) (clock_read t h))

-- ---- key-based write

secret_sized : (e : Option (List ℕ)) → IfSome e (λ s. length s ≡ 32) → length (secret_of e) ≡ 32
secret_sized (Some s) h = h
secret_sized None h = refl

flag_sized : (accepted : Bool) → is_flag (flag accepted) ≡ true
flag_sized true = refl
flag_sized false = refl

flag_read : (accepted : Bool) → eqb (flag accepted) 1 ≡ accepted
flag_read true = refl
flag_read false = refl

secret_read : (e : Option (List ℕ)) → secret_if (is_some e) (secret_of e) ≡ e
secret_read (Some s) = refl
secret_read None = refl

element_read : (e : Option (List ℕ)) → is_element (is_some e) (secret_of e) ≡ true
element_read (Some s) = refl
element_read None = refl

module _ (front request : List ℕ) (e : Option (List ℕ)) (salt nonce : List ℕ) (n m : ℕ) (f : length front ≡ 11) (p : IfSome e (λ s. length s ≡ 32)) (q : length salt ≡ 9) (u : length nonce ≡ 8) (h : n < 2 ^ 64) (k : m < 2 ^ 64) where
  abbrev tail : List ℕ
  tail = element_bytes e ++ (salt ++ (nonce ++ (bytes 8 n ++ bytes 8 m)))

  abbrev requestRecord : List ℕ
  requestRecord = front ++ (request ++ element_bytes e ++ salt ++ nonce ++ bytes 8 n ++ bytes 8 m)

  request-parts : requestRecord ≡ front ++ (request ++ tail)
  request-parts = ap (λ (l : List ℕ). front ++ l) (
      append_assoc (request ++ element_bytes e ++ salt ++ nonce) (bytes 8 n) (bytes 8 m)
      ∙ append_assoc (request ++ element_bytes e ++ salt) nonce (bytes 8 n ++ bytes 8 m)
      ∙ append_assoc (request ++ element_bytes e) salt (nonce ++ (bytes 8 n ++ bytes 8 m))
      ∙ append_assoc request (element_bytes e) (salt ++ (nonce ++ (bytes 8 n ++ bytes 8 m))))

  element-long : length (element_bytes e) ≡ 33
  element-long = ap suc (secret_sized e p)

  tail-long : length tail ≡ 66
  tail-long =
      length-append (element_bytes e) (salt ++ (nonce ++ (bytes 8 n ++ bytes 8 m)))
      ∙ ap (λ l. length (element_bytes e) + l) (length-append salt (nonce ++ (bytes 8 n ++ bytes 8 m)))
      ∙ ap (λ l. length (element_bytes e) + (length salt + l)) (length-append nonce (bytes 8 n ++ bytes 8 m))
      ∙ rw (element-long, q, u) refl

  request-long : length requestRecord ≡ length request + 77
  request-long =
      rw (request-parts, length-append front (request ++ tail), length-append request tail) (omega (arith, f, tail-long))

  abbrev at : ℕ
  at = length requestRecord - 66

  request-behind : (j i w : ℕ) → j ≡ length request + 11 + i → part j w requestRecord ≡ part i w tail
  request-behind j i w d =
      ap (part j w) request-parts
      ∙ part_behind front (request ++ tail) j (length request + i) w (omega (arith, f, d))
      ∙ part_behind request tail (length request + i) i w (omega arith)

  read-flag : get_or requestRecord at 0 ≡ flag (is_some e)
  read-flag =
      ap (λ l. get_or l at 0) request-parts
      ∙ byte_behind front (request ++ tail) at (length request) (omega (arith, f, request-long))
      ∙ byte_behind request tail (length request) 0 (omega arith)

  read-secret : part (at + 1) 32 requestRecord ≡ secret_of e
  read-secret =
      request-behind (at + 1) 1 32 (omega (arith, request-long))
      ∙ part_here (secret_of e) (salt ++ (nonce ++ (bytes 8 n ++ bytes 8 m))) 32 (secret_sized e p)

  read-accepted : eqb (get_or requestRecord at 0) 1 ≡ is_some e
  read-accepted = ap (λ b. eqb b 1) read-flag ∙ flag_read (is_some e)

  read-element : element_at at requestRecord ≡ e
  read-element = (λ i. secret_if (read-accepted i) (read-secret i)) ∙ secret_read e

  read-salt : part (at + 33) 9 requestRecord ≡ salt
  read-salt =
      request-behind (at + 33) 33 9 (omega (arith, request-long))
      ∙ part_behind (element_bytes e) (salt ++ (nonce ++ (bytes 8 n ++ bytes 8 m))) 33 0 9 (omega (arith, element-long))
      ∙ part_here salt (nonce ++ (bytes 8 n ++ bytes 8 m)) 9 q

  read-nonce : part (at + 42) 8 requestRecord ≡ nonce
  read-nonce =
      request-behind (at + 42) 42 8 (omega (arith, request-long))
      ∙ part_behind (element_bytes e) (salt ++ (nonce ++ (bytes 8 n ++ bytes 8 m))) 42 9 8 (omega (arith, element-long))
      ∙ part_behind salt (nonce ++ (bytes 8 n ++ bytes 8 m)) 9 0 8 (omega (arith, q))
      ∙ part_here nonce (bytes 8 n ++ bytes 8 m) 8 u

  -- both lengths stand behind 50 bytes
  lengths-at : (i : ℕ) → part (at + (50 + i)) 8 requestRecord ≡ part i 8 (bytes 8 n ++ bytes 8 m)
  lengths-at i =
      request-behind (at + (50 + i)) (50 + i) 8 (omega (arith, request-long))
      ∙ part_behind (element_bytes e) (salt ++ (nonce ++ (bytes 8 n ++ bytes 8 m))) (50 + i) (17 + i) 8 (omega (arith, element-long))
      ∙ part_behind salt (nonce ++ (bytes 8 n ++ bytes 8 m)) (17 + i) (8 + i) 8 (omega (arith, q))
      ∙ part_behind nonce (bytes 8 n ++ bytes 8 m) (8 + i) i 8 (omega (arith, u))

  read_out : number_at (at + 50) 8 requestRecord ≡ n
  read_out = ap number (lengths-at 0) ∙ number_read 8 n h

  read-packet : number_at (at + 58) 8 requestRecord ≡ m
  read-packet = ap number (lengths-at 8) ∙ number_read 8 m k

  read-request : part 11 (at - 11) requestRecord ≡ request
  read-request =
      ap (part 11 (at - 11)) request-parts
      ∙ part_behind front (request ++ tail) 11 0 (at - 11) (omega (arith, f))
      ∙ part_here request tail (at - 11) (omega (arith, request-long))

  request-read : key_based_fields at requestRecord ≡ KeyBasedWrite request e salt nonce (zeros n) (zeros m)
  request-read =
      λ i. KeyBasedWrite (read-request i) (read-element i) (read-salt i) (read-nonce i) (zeros (read_out i)) (zeros (read-packet i))

  request_sized : (leb 77 (length requestRecord) and is_flag (get_or requestRecord at 0) and is_element_at at requestRecord) ≡ true
  request_sized =
      let long : leb 77 (length requestRecord) ≡ true = le-leb 77 (length requestRecord) (omega (arith, request-long)) in
      all_three long (ap is_flag read-flag ∙ flag_sized (is_some e)) ((λ i. is_element (read-accepted i) (read-secret i)) ∙ element_read e)

on_link_lem : (l t : ℕ) (e : LinkEvent) → t < 2 ^ 64 → FitsOnLink e
    → read_as (kind_on_link e) (body_of (kind_on_link e) (fields (OnLink l t e))) ≡ OnLink l t (kept_on_link e)
unfolding read_as read_key_based_write
on_link_lem l t LinkUp h f = ap (λ n. OnLink l n LinkUp) (clock_read t h)
on_link_lem l t LinkDown h f = ap (λ n. OnLink l n LinkDown) (clock_read t h)
on_link_lem l t (KeyBasedWrite request e salt nonce out packet) h (p, q, u, v, w) =
    let front = link_front kind.KeyBasedWrite l t in
    let r = request-read front request e salt nonce (length out) (length packet) refl p q u v w in
    or_marker_lem (request_sized front request e salt nonce (length out) (length packet) refl p q u v w)
    (λ i. OnLink l (clock_read t h i) (r i))
on_link_lem l t (OnSession e) h f = on_session l t e h f

-- ---- power-on

module _ (stored name : List ℕ) (s : Start) (f : FitsStart s) (few : length stored < 2 ^ 16) where
  abbrev front : List ℕ
  front = 0x01 ∷ kind_byte kind.PowerOn ∷ bytes 2 (length stored)

  abbrev startRecord : List ℕ
  startRecord = body_of kind.PowerOn (fields (PowerOn stored name s))

  start-parts : startRecord ≡ front ++ (stored ++ (start_bytes s ++ name))
  start-parts =
      ap (λ (l : List ℕ). 0x01 ∷ kind_byte kind.PowerOn ∷ l)
      (append_assoc (bytes 2 (length stored) ++ stored) (start_bytes s) name
      ∙ append_assoc (bytes 2 (length stored)) stored (start_bytes s ++ name))

  list_length_lem : list_length startRecord ≡ length stored
  list_length_lem = ap (λ l. list_length l) start-parts ∙ number_read 2 (length stored) few

  start-bytes : start_bytes s ≡ s.ble.bytes ++ (s.identity.public.bytes ++ (s.identity.model ++ s.salt))
  start-bytes =
      append_assoc (s.ble.bytes ++ s.identity.public.bytes) s.identity.model s.salt
      ∙ append_assoc s.ble.bytes s.identity.public.bytes (s.identity.model ++ s.salt)

  start-long : length (start_bytes s) ≡ 17
  start-long =
      ap (λ (l : List ℕ). length l) start-bytes
      ∙ length-append s.ble.bytes (s.identity.public.bytes ++ (s.identity.model ++ s.salt))
      ∙ ap (λ l. length s.ble.bytes + l) (length-append s.identity.public.bytes (s.identity.model ++ s.salt))
      ∙ ap (λ l. length s.ble.bytes + (length s.identity.public.bytes + l)) (length-append s.identity.model s.salt)
      ∙ rw (f.0, f.1, f.2, f.3) refl

  -- what stands behind the list, and is not the name
  start-behind : (at i w : ℕ) → at ≡ 4 + length stored + i → i + w ≤ 17 → part at w startRecord ≡ part i w (start_bytes s)
  start-behind at i w d h =
      ap (part at w) start-parts
      ∙ part_behind front (stored ++ (start_bytes s ++ name)) at (length stored + i) w (omega (arith, d))
      ∙ part_behind stored (start_bytes s ++ name) (length stored + i) i w (omega arith)
      ∙ part_within (start_bytes s) name i w (omega (arith, h, start-long))

  -- and what stands in it, behind x
  start-at : (x y : List ℕ) (at i w : ℕ) → at ≡ 4 + length stored + i → i + w ≤ 17 → length x ≡ i → start_bytes s ≡ x ++ y
      → part at w startRecord ≡ part 0 w y
  start-at x y at i w d h e t =
      start-behind at i w d h ∙ ap (part i w) t ∙ part_behind x y i 0 w (omega (arith, e))

  read-ble : part (4 + length stored) 6 startRecord ≡ s.ble.bytes
  read-ble =
      start-at [] (start_bytes s) (4 + length stored) 0 6 (omega arith) (omega arith) refl refl
      ∙ ap (part 0 6) start-bytes
      ∙ part_here s.ble.bytes (s.identity.public.bytes ++ (s.identity.model ++ s.salt)) 6 f.0

  read-public : part (4 + length stored + 6) 6 startRecord ≡ s.identity.public.bytes
  read-public =
      start-at s.ble.bytes (s.identity.public.bytes ++ (s.identity.model ++ s.salt)) (4 + length stored + 6) 6 6 refl
      (omega arith) f.0 start-bytes
      ∙ part_here s.identity.public.bytes (s.identity.model ++ s.salt) 6 f.1

  start-bytes-2 : start_bytes s ≡ (s.ble.bytes ++ s.identity.public.bytes) ++ (s.identity.model ++ s.salt)
  start-bytes-2 = append_assoc (s.ble.bytes ++ s.identity.public.bytes) s.identity.model s.salt

  addresses-long : length (s.ble.bytes ++ s.identity.public.bytes) ≡ 12
  addresses-long = length-append s.ble.bytes s.identity.public.bytes ∙ rw (f.0, f.1) refl

  read-model : part (4 + length stored + 12) 3 startRecord ≡ s.identity.model
  read-model =
      start-at (s.ble.bytes ++ s.identity.public.bytes) (s.identity.model ++ s.salt) (4 + length stored + 12) 12 3 refl
      (omega arith) addresses-long start-bytes-2
      ∙ part_here s.identity.model s.salt 3 f.2

  ids-long : length (s.ble.bytes ++ s.identity.public.bytes ++ s.identity.model) ≡ 15
  ids-long =
      length-append (s.ble.bytes ++ s.identity.public.bytes) s.identity.model ∙ rw (addresses-long, f.2) refl

  read-salt-behind : part (4 + length stored + 15) 2 startRecord ≡ s.salt
  read-salt-behind =
      start-at (s.ble.bytes ++ s.identity.public.bytes ++ s.identity.model) s.salt (4 + length stored + 15) 15 2 refl
      (omega arith) ids-long refl
      ∙ last_part s.salt 2 f.3

  read-start : start_at (4 + length stored) startRecord ≡ s
  read-start =
      λ i. record {
        identity = record { public = record { bytes = read-public i }; model = read-model i };
        ble = record { bytes = read-ble i };
        salt = read-salt-behind i;
      }

  read-stored : part 4 (length stored) startRecord ≡ stored
  read-stored =
      ap (part 4 (length stored)) start-parts
      ∙ part_behind front (stored ++ (start_bytes s ++ name)) 4 0 (length stored) refl
      ∙ part_here stored (start_bytes s ++ name) (length stored) refl

  read_name : drop (21 + length stored) startRecord ≡ name
  read_name =
      ap (drop (21 + length stored)) start-parts
      ∙ drop_behind front (stored ++ (start_bytes s ++ name)) (21 + length stored) (length stored + 17) (omega arith)
      ∙ drop_behind stored (start_bytes s ++ name) (length stored + 17) 17 (omega arith)
      ∙ drop_behind (start_bytes s) name 17 0 (omega (arith, start-long))

  start-sized : leb (21 + length stored) (length startRecord) ≡ true
  start-sized =
      let long : length startRecord ≡ 4 + (length stored + (17 + length name)) =
      ap (λ (l : List ℕ). length l) start-parts
      ∙ length-append front (stored ++ (start_bytes s ++ name))
      ∙ ap (λ l. 4 + l) (length-append stored (start_bytes s ++ name))
      ∙ ap (λ l. 4 + (length stored + l)) (length-append (start_bytes s) name)
      ∙ rw start-long refl
      in
      le-leb (21 + length stored) (length startRecord) (omega (arith, long))

  power-on : read_power_on startRecord ≡ PowerOn stored name s
  unfolding read_power_on
  power-on =
      rw list_length_lem (or_marker_lem start-sized (λ i. PowerOn (read-stored i) (read_name i) (read-start i)))

-- ---- every event

short_list : (stored name : List ℕ) (s : Start) → length (body_of kind.PowerOn (fields (PowerOn stored name s))) ≤ 1024 → length stored < 2 ^ 16
short_list stored name s h =
    let a = length-append (bytes 2 (length stored) ++ stored ++ start_bytes s) name in
    let b = length-append (bytes 2 (length stored) ++ stored) (start_bytes s) in
    omega (arith, a, b, h)

read_back : (e : Event) → Fits e → length (body_of (kind_of e) (fields e)) ≤ 1024 → read_as (kind_of e) (body_of (kind_of e) (fields e)) ≡ kept e
unfolding read_as
read_back Overflow f h = refl
read_back (PowerOn stored name s) f h = power-on stored name s f (short_list stored name s h)
read_back (OnDevice t e) (f, g) h = on_device_lem t e f g
read_back (OnLink l t e) (f, g) h = on_link_lem l t e f g

pub record_reads : RecordReads
unfolding body
record_reads e r = rw (kind_read_lem (kind_of e) (fields e) r.short) (read_back e r.sized r.short)
