-- A price and a volume that were read stand within the part. Assumes nothing.
use Prim.Native.Nat.{ℕ, ◌+◌, ◌-◌, ◌^◌, ◌≤◌, ◌<◌}
use native.Mathlib.Omega.{arith}
use mathlib.Core.Path.{◌≡◌, sym, ◌∙◌}
use mathlib.Core.List.{List}
use lib.ListN.{length, take, drop, length-drop}
use Rattle.std.specs.Prelude.{Option, Some}
use Rattle.read_price.specs.declared.PriceRead.{PriceRead}
use Rattle.read_price.specs.Price.{price_at}
use Rattle.read_price.proofs.Text.{price_within}
use Rattle.read_volume.specs.declared.VolumeRead.{VolumeRead}
use Rattle.read_volume.specs.Volume.{volume_at}
use Rattle.read_volume.proofs.Shown.{volume_within}
use Rattle.read_conditions.proofs.Steps.{price_part}

module _ (part : List ℕ) (used : ℕ) (p : PriceRead) (h : used ≤ length part) where
  pub priced_room : price_at (drop used part) ≡ Some p → used + p.used ≤ length part
  priced_room e = omega (arith, price_within (drop used part) p e, length-drop used part)

  -- as the code cuts the part
  module _ (price : Option PriceRead) (f : price ≡ price_at (take (length part - used) (drop used part))) (e : price ≡ Some p) where
    pub cut_room : used + p.used ≤ length part
    cut_room = priced_room (sym (price_part part used price f) ∙ e)

    pub cut_fits : length part < 2 ^ 64 → used + p.used < 2 ^ 64
    cut_fits l = omega (arith, cut_room)

pub said_room : (part : List ℕ) (volume : Option VolumeRead) (v : VolumeRead) → volume ≡ Some v → volume ≡ volume_at part → v.used ≤ length part
said_room part volume v e f = volume_within part v (sym f ∙ e)
