-- What a call from C gives back: the step of provider's rules on the device handed in, or a refusal where that is none.
-- Assumes nothing.
use Rattle.std.specs.Prelude.{false, List, ℕ, eqb, replicate, None, if◌then◌else◌}
use Rattle.std.specs.Option.{option_map_or}
use Rattle.advertising.specs.declared.Prompt.{Prompt}
use Rattle.advertising.specs.declared.Prompt.TheVariants.{Show, Hide}
use Rattle.basics.specs.Output.{report_of, placed}
use Rattle.packed.specs.Packed.{unpacked, packed_bond, packed_outcome, packed_report}
use Rattle.packed.specs.declared.FpDevice.{FpDevice}
use Rattle.packed.specs.declared.FpOutcome.{FpOutcome}
use Rattle.packed.specs.declared.FpReport.{FpReport}
use Rattle.provider.specs.Rules.Event.{Event, lent, step}
use Rattle.provider.specs.declared.Device.{Device}

-- the answer to bytes that are not served, none of document 01's numbers
abbrev pub not_a_device : ℕ
not_a_device = 255

-- the bytes come back as they were
abbrev pub returned : FpDevice → FpOutcome
returned f =
    record {
      next = f;
      reply = record {
        answer = not_a_device;
        tried = 0;
        confirm = 0;
        packet = 0;
        named = 0;
        rotate = false;
        bond = packed_bond None;
      };
      reserved = replicate 3 0;
    }

-- what becomes of the device that the bytes are, or else what is said of bytes that are none
abbrev pub on_device : {A : Type 0} → FpDevice → (Device → A) → A → A
on_device f of_it otherwise = option_map_or of_it (unpacked f) otherwise

-- an event: the next device and the answer
unfoldable pub served : FpDevice → Event → FpOutcome
served f e = on_device f (λ d. packed_outcome (step d e).gives) (returned f)

-- and the lent outputs afterwards
unfoldable pub lent_back : FpDevice → Event → List (List ℕ)
lent_back f e = on_device f (λ d. (step d e).leaves) (lent e)

abbrev pub no_report : FpReport
no_report = record { length = 0; answer = not_a_device; reserved = replicate 7 0 }

-- a question: a text for the lent output
unfoldable pub told : FpDevice → (Device → List ℕ) → List ℕ → FpReport
told f text out = on_device f (λ d. packed_report (report_of (text d) out)) no_report

unfoldable pub written_to : FpDevice → (Device → List ℕ) → List ℕ → List ℕ
written_to f text out = on_device f (λ d. placed (text d) out) out

-- ---- what C hands in beside the device

abbrev pub prompt_of : ℕ → Prompt
prompt_of hide = if eqb hide 0 then Show else Hide
