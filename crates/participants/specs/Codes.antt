-- The number of each fault of a site.
use Rattle.std.specs.Prelude.{ℕ}
use Rattle.participants.specs.declared.answer.SiteFault.{SiteFault}
use Rattle.participants.specs.declared.answer.SiteFault.TheVariants.{TooMany, OutOfRange, Twice}

abbrev pub site_code : SiteFault → ℕ
site_code TooMany = 14
site_code OutOfRange = 14
site_code Twice = 15
