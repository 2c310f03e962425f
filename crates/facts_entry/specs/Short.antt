-- A shown fact whose numbers are within the columns that they come from. Assumes nothing.
use Rattle.std.specs.Prelude.{ℕ, ◌^◌, ◌≤◌, ◌<◌}
use Rattle.std.proofs.Math.Option.{Option, none, some}
use Rattle.rules.specs.Sizes.{security_places}
use Rattle.rules.specs.Shown.{Conditions, Part, in_full, bare, Fact, announced, traded, cancelled, erred, corrected}

pub record ShortConditions (c : Conditions) : Type 0 where
  pub days_is : c.days < 10 ^ 3
  pub previous_is : c.previous < 10 ^ 14

unfoldable pub ShortPart : Part → Type 0
ShortPart (in_full price c volume) = (price < 10 ^ 14) × (ShortConditions c × (volume < 10 ^ 9))
ShortPart (bare c) = ShortConditions c

unfoldable pub ShortVolume : Option ℕ → Type 0
ShortVolume none = Unit {0}
ShortVolume (some n) = n < 10 ^ 9

unfoldable pub ShortFact : Fact → Type 0
ShortFact (announced text) = Unit {0}
ShortFact (traded i temporary price c volume) = (i ≤ security_places) × ((price < 10 ^ 14) × (ShortConditions c × ShortVolume volume))
ShortFact (cancelled i x) = (i ≤ security_places) × ShortPart x
ShortFact (erred i x) = (i ≤ security_places) × ShortPart x
ShortFact (corrected i x y) = (i ≤ security_places) × (ShortPart x × ShortPart y)

unfoldable pub ShortShown : Option Fact → Type 0
ShortShown none = Unit {0}
ShortShown (some f) = ShortFact f
