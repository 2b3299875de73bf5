-- The sample of document 02 (iii) holds of the definitions.
-- Assumes nothing.
use mathlib.Core.Path.{refl}
use Rattle.account_keys.specs.Keys.{owned}
use Rattle.account_keys.specs.StoredList.{keys_in, well_sized, reading_under, reading}
use Rattle.names.specs.Name.{is_name}
use Rattle.names.specs.Utf8.{continues}
use Rattle.provider.specs.Rules.Control.{power_on}
use Rattle.recording.specs.Reading.{divide_within, kind_read, read_power_on, read_as}
use Rattle.replay.specs.Replay.{answered, shown_of, lines_from}
use Rattle.replay_text.specs.Samples.{SamplePrinted}
use Rattle.replay_text.specs.Text.{decimal_within, text, texts}

pub sample_printed : SamplePrinted
unfolding divide_within kind_read read_power_on read_as power_on reading reading_under well_sized keys_in owned is_name continues answered shown_of lines_from decimal_within text texts
sample_printed = (refl, refl)
