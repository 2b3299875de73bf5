-- Some ways of the events, as theorems on them need them.
-- Assumes nothing.
use mathlib.Core.Bool.{true, false}
use mathlib.Core.List.{List}
use mathlib.Core.Path.{◌≡◌}
use Prim.Native.Nat.{ℕ}
use Rattle.basics.specs.Answers.{is_taken}
use Rattle.basics.specs.declared.Answer.TheVariants.{LinkIdle}
use Rattle.additional_data.specs.Packet.{opened}
use Rattle.names.specs.declared.Name.{Name}
use Rattle.std.specs.Prelude.{Some}
use Rattle.pairing.specs.Pairing.{answered, in_stage, name_taken, name_write, passkey_output}
use Rattle.pairing.specs.declared.SessionOutcome.{SessionOutcome}
use Rattle.sessions.specs.Sessions.{is_stage}
use Rattle.sessions.specs.declared.Session.{Session}
use Rattle.sessions.specs.declared.Stage.{Stage}
use Rattle.sessions.specs.declared.Stage.TheVariants.{Idle, Paired}

-- no rule is asked on an idle link
pub link_idle : (needed : Stage) (rule : Session → SessionOutcome) (s : Session) → is_stage s.stage Idle ≡ true
    → in_stage needed rule s ≡ answered LinkIdle s
unfolding in_stage
link_idle needed rule s h = rw h

-- a packet that is read as a name renames, on a link that is neither idle nor paired
pub name_taken_lem : (packet : List ℕ) (s : Session) → is_stage s.stage Idle ≡ false → is_stage s.stage Paired ≡ false
    → {n : Name} → opened s.key packet ≡ Some n → name_write packet s ≡ name_taken s n
unfolding name_write
name_taken_lem packet s h k e = rw (h, k, e)

-- a refusal leaves the lent output
pub output_kept : (salt out : List ℕ) (s : Session) (a : SessionOutcome) → is_taken a.answer ≡ false
    → passkey_output salt out s a ≡ out
unfolding passkey_output
output_kept salt out s a h = rw h
