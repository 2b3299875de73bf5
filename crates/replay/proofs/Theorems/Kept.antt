-- What a record does not keep of an event changes nothing of what the event gives.
-- Assumes nothing.
use Rattle.std.proofs.Common.{◌≡◌, ℕ, List, length, refl, ap}
use lib.ListN.{length-replicate}
use Rattle.pairing.specs.Pairing.{PairingStarted, ConfirmationNeeded, PasskeyWrite, PairingEnded, AccountKeyWrite, NameWrite}
use Rattle.provider.specs.Rules.Event.{Overflow, PowerOn, OnDevice, OnLink, LinkUp, LinkDown, KeyBasedWrite, OnSession, response_room, outputs_room}
use Rattle.recording.specs.Reading.{zeros}
use Rattle.replay_events.proofs.LentOutputs.{passkey_write_gives, key_based_write_gives}
use Rattle.replay.specs.Promises.{KeptGives}

room_kept : (out packet : List ℕ)
    → outputs_room (length (zeros (length out))) (length (zeros (length packet))) ≡ outputs_room (length out) (length packet)
room_kept out packet = λ i. outputs_room (length-replicate {A = ℕ} (length out) 0 i) (length-replicate {A = ℕ} (length packet) 0 i)

pub kept_gives : KeptGives
kept_gives d Overflow = refl
kept_gives d (PowerOn stored name start) = refl
kept_gives d (OnDevice t e) = refl
kept_gives d (OnLink l t LinkUp) = refl
kept_gives d (OnLink l t LinkDown) = refl
kept_gives d (OnLink l t (KeyBasedWrite request element salt nonce out packet)) =
    key_based_write_gives d l t request element salt nonce (zeros (length out)) (zeros (length packet)) out packet
    (room_kept out packet)
kept_gives d (OnLink l t (OnSession (PairingStarted capability))) = refl
kept_gives d (OnLink l t (OnSession (ConfirmationNeeded passkey))) = refl
kept_gives d (OnLink l t (OnSession (PasskeyWrite block salt out))) =
    passkey_write_gives d l t block salt (zeros (length out)) out (ap response_room (length-replicate {A = ℕ} (length out) 0))
kept_gives d (OnLink l t (OnSession (PairingEnded success))) = refl
kept_gives d (OnLink l t (OnSession (AccountKeyWrite block))) = refl
kept_gives d (OnLink l t (OnSession (NameWrite packet))) = refl
