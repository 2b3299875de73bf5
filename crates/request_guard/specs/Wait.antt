-- Document 02 (vii): the wait for a rotation of the BLE address, during which key-based writes get 16.
-- Assumes nothing.
use Rattle.std.specs.Prelude.{Bool, true, false, not, eqb, if◌then◌else◌}
use Rattle.laws.specs.Choice.{◌or◌}
use Rattle.request_guard.specs.declared.Guard.{Guard}
use Rattle.request_guard.specs.declared.wait.RotationWait.{RotationWait}

-- "rotation, power-on and factory reset do" lift it
abbrev pub no_wait : RotationWait
no_wait = record { on = false }

-- after an accepted request: it begins if that "asks the radio to rotate"
abbrev pub wait_after : Bool → RotationWait → RotationWait
wait_after asks w = if asks then record { on = true } else w

-- "uncounted": while it is on, no failure stands counted. The accepted request set the count to 0, and 16 counts none
abbrev pub uncounted : RotationWait → Guard → Bool
uncounted w g = not w.on or eqb g.failures.count 0
