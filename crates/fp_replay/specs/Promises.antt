-- What is promised of the program's lines.
-- Assumes nothing.
use Rattle.std.specs.Prelude.{List, ◌++◌, ◌≡◌, ℕ}
use Rattle.replay.specs.Parts.{start_stream, ended}
use Rattle.replay.specs.Promises.{fed_parts, line_of, joined_parts}
use Rattle.replay_text.specs.Text.{texts, printed_text}

-- whatever the reads give: the lines of all parts, and that of the end, are the text of the joined recording
abbrev pub PrintsJoined : Type 0
PrintsJoined =
    (parts : List (List ℕ))
    → texts ((fed_parts start_stream parts).lines ++ line_of (ended (fed_parts start_stream parts).next).line) ≡ printed_text (joined_parts parts)
