-- What C may count on, as statements; proofs/ has a proof of each.
-- Assumes nothing.
use Rattle.std.specs.Prelude.{List, [], ◌∷◌, ◌≡◌, ℕ, eqb, take}
use Rattle.advertising.specs.declared.Prompt.{Prompt}
use Rattle.capi.specs.Calls.{served, lent_back, told, written_to}
use Rattle.packed.specs.Packed.{packed, packed_outcome}
use Rattle.packed.specs.declared.FpDevice.{FpDevice}
use Rattle.packed.specs.declared.FpReply.{FpReply}
use Rattle.provider.specs.Demands.Gap.{Observed, OnlyTakesAway}
use Rattle.provider.specs.Demands.KeptFilter.{payload_afresh}
use Rattle.provider.specs.Demands.Rotation.{NoneWhileAwaited}
use Rattle.provider.specs.Demands.Validity.{Valid}
use Rattle.provider.specs.Rules.Control.{advertised}
use Rattle.provider.specs.Rules.Event.{Event, PowerOn, step, after}
use Rattle.provider.specs.declared.Device.{Device}
use Rattle.provider.specs.declared.Start.{Start}

-- a call from C is one step of document 01's rules
abbrev pub CallIsStep : Type 0
CallIsStep =
    (d : Device) (e : Event) → Valid d
    → (served (packed d) e ≡ packed_outcome (step d e).gives) × (lent_back (packed d) e ≡ (step d e).leaves)

-- the device in C's hands after events one after another, each on what the last call gave back
unfoldable pub after_calls : FpDevice → List Event → FpDevice
after_calls f [] = f
after_calls f (e ∷ es) = after_calls (served f e).next es

-- it is the one of document 01's rules, whatever the events
abbrev pub CallsAreSteps : Type 0
CallsAreSteps = (d : Device) (es : List Event) → Valid d → after_calls (packed d) es ≡ packed (after d es)

-- what firmware sees of calls: `next.stored` is the list written out, `next.name` the name, and `awaited` and `rotate` tell of the
-- wait for a rotation
abbrev pub calls : Observed FpDevice FpReply
calls =
    record {
      next = λ f e. (served f e).next;
      number = λ f e. (served f e).reply.answer;
      reply = λ f e. (served f e).reply;
      leaves = lent_back;
      written = λ f. take f.stored.length f.stored.bytes;
      name = λ f. take f.name.length f.name.bytes;
      waits = λ f. eqb f.awaited 1;
      rotate = λ f e. (served f e).reply.rotate;
    }

-- demand 3 of calls, from any bytes on: both runs start from the device that the same taken power-on gave
abbrev pub CallsOnlyTakeAway : Type 0
CallsOnlyTakeAway =
    (f : FpDevice) (stored name : List ℕ) (start : Start) → (served f (PowerOn stored name start)).reply.answer ≡ 0
    → OnlyTakesAway calls (served f (PowerOn stored name start)).next

-- asked for the payload, what C holds gives document 01's, whose filter is built afresh
abbrev pub AdvertisesAfresh : FpDevice → Prompt → Type 0
AdvertisesAfresh f prompt =
    (out : List ℕ) → (told f (λ d. advertised d prompt) out ≡ told f (λ d. payload_afresh d prompt) out)
    × (written_to f (λ d. advertised d prompt) out ≡ written_to f (λ d. payload_afresh d prompt) out)

-- document 02 (v) of calls, from any bytes on: it does so whatever calls follow a taken power-on
abbrev pub CallsAdvertiseAfresh : Type 0
CallsAdvertiseAfresh =
    (f : FpDevice) (stored name : List ℕ) (start : Start) → (served f (PowerOn stored name start)).reply.answer ≡ 0
    → (es : List Event) (prompt : Prompt)
    → AdvertisesAfresh (after_calls (served f (PowerOn stored name start)).next es) prompt

-- document 02 (vii) of calls, from any bytes on: after an answer that says `rotate`, no key-based write gets 0 up to the rotation,
-- power-on or factory reset that does
abbrev pub CallsAcceptNoneWhileAwaited : Type 0
CallsAcceptNoneWhileAwaited = NoneWhileAwaited calls
