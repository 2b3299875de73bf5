-- The samples hold of the definitions.
-- Assumes nothing.
use mathlib.Core.Path.{refl}
use Rattle.account_keys.specs.StoredList.{key_bytes, keys_in, well_sized, writing_under, reading_under, reading}
use Rattle.account_keys.specs.Keys.{owned}
use Rattle.advertising.specs.Payload.{service_data, payload}
use Rattle.provider.specs.Demands.Samples.{SamplesAgree}

pub samples_agree : SamplesAgree
unfolding writing_under key_bytes reading reading_under well_sized keys_in owned payload service_data
samples_agree = refl
