-- Document 01, "Key-based write": answers 5 to 8, what an accepted request changes, and its response; document 02: the packet with the
-- name (i), the key that is used (ii), answer 16 and the address that was named (vii).
-- Assumes nothing.
use Rattle.std.specs.Prelude.{Bool, false, not, List, [], ◌∷◌, ◌++◌, ℕ, drop, Option, Some, None, if◌then◌else◌}
use Rattle.laws.specs.Choice.{◌and◌}
use Rattle.account_keys.specs.Keys.{held, kept, used}
use Rattle.account_keys.specs.declared.AccountKeys.{AccountKeys}
use Rattle.basics.specs.Answers.{is_taken}
use Rattle.basics.specs.declared.Address.{Address}
use Rattle.basics.specs.declared.Answer.{Answer}
use Rattle.basics.specs.declared.Answer.TheVariants.{Taken, LockedOut, NotInPairingMode, NoKeyFits, SaltSpent, RotationAwaited}
use Rattle.key_based.specs.Request.{has_public_key, request_salt, bond_asked, name_asked, response}
use Rattle.key_based.specs.Search.{searched}
use Rattle.key_based.specs.declared.Context.{Context}
use Rattle.key_based.specs.declared.Decision.{Decision}
use Rattle.key_based.specs.declared.Found.{Found}
use Rattle.key_based.specs.declared.Search.{Search}
use Rattle.additional_data.specs.Packet.{sealed, packet_size}
use Rattle.names.specs.Name.{text_of}
use Rattle.names.specs.declared.Name.{Name}
use Rattle.request_guard.specs.Guard.{remembered, spent, locked, failed_at, accepted_with}
use Rattle.request_guard.specs.declared.Guard.{Guard}
use Rattle.sessions.specs.declared.Session.{Session}
use Rattle.sessions.specs.declared.Stage.TheVariants.{Asked}

-- an answer after n keys that names and hands out no address, sends no name and uses no key; the session stays
abbrev pub refused : Guard → Session → Answer → ℕ → Decision
refused g s a n =
    record {
      answer = a;
      tried = n;
      named = None;
      bond = None;
      guard = g;
      session = s;
      sends = false;
      uses = false;
    }

-- "K replaces the link's key, stage asked"
abbrev pub asked : List ℕ → ℕ → Session
asked key t = record { stage = Asked; key = key; since = record { 0 = t }; passkey = 0 }

-- "If accepted: remember the salt, count becomes 0, K replaces the link's key, stage asked"; `uses` says whether K is used. "The
-- accepted answer hands this on": the address that was named
abbrev pub accepted : Guard → ℕ → Bool → ℕ → Found → Decision
accepted g t uses n f =
    record {
      answer = Taken;
      tried = n;
      named = Some f.named;
      bond = bond_asked f.plain;
      guard = accepted_with (request_salt f.plain) g;
      session = asked f.key t;
      sends = name_asked f.plain;
      uses = uses;
    }

-- 8: "fits, salt remembered"
abbrev pub salt_known : Guard → Option Found → Bool
salt_known g None = false
salt_known g (Some f) = spent (remembered g.spent) (request_salt f.plain)

-- answers 7 and 8: "count plus 1, this failure's moment stored" if no candidate fits
abbrev pub settled_by : Guard → Session → ℕ → Bool → ℕ → Option Found → Decision
settled_by g s t uses n None = refused (failed_at t g) s NoKeyFits n
settled_by g s t uses n (Some f) =
    if salt_known g (Some f) then refused g s SaltSpent n else accepted g t uses n f

unfoldable pub settled : Guard → Session → ℕ → Bool → Search → Decision
settled g s t uses r = settled_by g s t uses r.tried r.found

-- the keys tried
abbrev pub tried_keys : Context → Option (List ℕ) → List ℕ → Search
tried_keys c secret request = searched c.ble c.public (held c.keys) secret request

-- 6: "80 bytes, pairing mode off"
abbrev pub unwanted : Context → List ℕ → Bool
unwanted c request = has_public_key request and not c.pairing

-- document 02 (ii): a use is "being the key of an accepted 16-byte request"; one of 80 bytes uses no key of the list
abbrev pub uses_key : List ℕ → Bool
uses_key request = not (has_public_key request)

-- a request at moment t on a link with session s: answers 5, 16, 6, 7 and 8 in this order. "Until the rotation, further key-based
-- writes get a new answer 16, after 5 and before 6, uncounted, clock step only."
unfoldable pub decided : Context → Session → ℕ → Option (List ℕ) → List ℕ → Decision
decided c s t secret request =
    if locked c.guard then refused c.guard s LockedOut 0 else
    if c.wait.on then refused c.guard s RotationAwaited 0 else
    if unwanted c request then refused c.guard s NotInPairingMode 0 else
    settled c.guard s t (uses_key request) (tried_keys c secret request)

-- the account keys after a request under K: "the key moves to the end", if it is used
abbrev pub used_in : Bool → List ℕ → AccountKeys → AccountKeys
used_in uses key ks = if uses then kept (used (held ks) (record { bytes = key })) else ks

-- "and the response is .. encrypted with K": it stands in front of the lent output, whose other bytes stay
abbrev pub responded_to : Answer → List ℕ → Address → List ℕ → List ℕ → List ℕ
responded_to a key public salt out = if is_taken a then response key public salt ++ drop 16 out else out

-- document 02 (i): "An accepted request with 0x20 .. writes the packet to a second output"; else its bytes stay
abbrev pub packet_to : Bool → List ℕ → Name → List ℕ → List ℕ → List ℕ
packet_to sends key name nonce packet =
    if sends then sealed key nonce (text_of name) ++ drop (packet_size name) packet else packet

-- the lent outputs after a decision: response and packet
abbrev pub outputs_of : Context → List ℕ → List ℕ → List ℕ → List ℕ → Decision → List (List ℕ)
outputs_of c salt nonce out packet r =
    responded_to r.answer r.session.key c.public salt out
    ∷ packet_to r.sends r.session.key c.name nonce packet
    ∷ []

-- and after a request
abbrev pub request_outputs : Context → Session → ℕ → Option (List ℕ) → (request salt nonce out packet : List ℕ) → List (List ℕ)
request_outputs c s t secret request salt nonce out packet =
    outputs_of c salt nonce out packet (decided c s t secret request)

-- "hands out the packet's length"; without 0x20, or refused, it is 0
abbrev pub packet_length : Bool → Name → ℕ
packet_length sends name = if sends then packet_size name else 0
