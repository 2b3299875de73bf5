-- A replay that was handed out reads back; any bytes are read as a stream that is ready.
-- Assumes nothing.
use mathlib.Core.Bool.{Bool, true, false}
use mathlib.Core.Path.{◌≡◌, refl, subst}
use lib.Dec.{eqb, leb}
use Rattle.std.specs.Prelude.{Option, Some, None, unwrap_or, option_and_then, if◌then◌else◌}
use Rattle.packed.proofs.ReadsBack as devices
use Rattle.packed.specs.Packed.{flag, unpacked}
use Rattle.reassembly.proofs.ReadAgain as records
use Rattle.reassembly.specs.Parts.{read_again}
use Rattle.reassembly.specs.declared.Unfinished.{Unfinished}
use Rattle.provider.specs.declared.Device.{Device}
use Rattle.replayer.specs.declared.FpReplay.{FpReplay}
use Rattle.replay.proofs.Theorems.Parts.{start_ready}
use Rattle.replay.specs.Parts.{start_stream, Ready}
use Rattle.replay.specs.declared.parts.Stream.{Stream}
use Rattle.replayer.specs.Calls.{packed_stream, held_in, read_stream, unpacked_stream}
use Rattle.replayer.specs.Demands.{ReadsBack, AnyBytes}

flag_known : (b : Bool) → leb (flag b) 1 ≡ true
flag_known true = refl
flag_known false = refl

flag_back : (b : Bool) → eqb (flag b) 1 ≡ b
flag_back true = refl
flag_back false = refl

pub unpacked_back : (s : Stream) → Ready s → unpacked_stream (packed_stream s) ≡ Some s
unfolding unpacked_stream packed_stream
unpacked_back s r =
    rw (devices.unpacked_back s.replay.device r.device, records.reads_back s.unfinished r.held, flag_known s.replay.started, flag_back s.replay.started)

pub reads_back : ReadsBack
reads_back s r = let back = unpacked_back s r in (rw back, rw back)

pub unpacked_ready : (f : FpReplay) (s : Stream) → Some s ≡ unpacked_stream f → Ready s
unfolding unpacked_stream
unpacked_ready f s = by_device (unpacked f.device) refl
  where
    by_flag : (d : Device) (u : Unfinished) (b : Bool) → Some d ≡ unpacked f.device → Some u ≡ read_again (held_in f)
        → Some s ≡ (if b then Some (read_stream f d u) else None) → Ready s
    by_flag d u true p q e =
        let same : read_stream f d u ≡ s = cc in
        subst Ready same (record { device = devices.any_device f.device d p; held = records.again_open (held_in f) u q })
    by_flag d u false p q e = cc

    by_held : (d : Device) (u : Option Unfinished) → Some d ≡ unpacked f.device → u ≡ read_again (held_in f)
        → Some s ≡ option_and_then (λ held. if leb f.started 1 then Some (read_stream f d held) else None) u → Ready s
    by_held d None p q e = cc
    by_held d (Some u) p q e = by_flag d u (leb f.started 1) p q e

    by_device : (d : Option Device) → d ≡ unpacked f.device
        → Some s ≡ option_and_then (λ device. option_and_then (λ held. if leb f.started 1 then Some (read_stream f device held) else None) (read_again (held_in f))) d
        → Ready s
    by_device None p e = cc
    by_device (Some d) p e = by_held d (read_again (held_in f)) p refl e

pub any_bytes : AnyBytes
any_bytes f = by-test (unpacked_stream f) refl
  where
    by-test : (r : Option Stream) → r ≡ unpacked_stream f → Ready (unwrap_or r start_stream)
    by-test (Some s) e = unpacked_ready f s e
    by-test None e = start_ready
