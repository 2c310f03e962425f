-- An entry is the entry of the fact that it stands for. Assumes nothing.
use Prim.Native.Nat.{ℕ}
use mathlib.Core.Path.{◌≡◌, refl, ap, ◌∙◌}
use mathlib.Core.List.{List}
use Rattle.facts_entry.specs.declared.Conditions.{Conditions}
use Rattle.facts_entry.specs.declared.Part.{Part}
use Rattle.facts_entry.specs.declared.Part.TheVariants.{Full, Bare}
use Rattle.std.specs.Prelude.{Option, Some, None}
use Rattle.facts_entry.specs.declared.Entry.{Entry}
use Rattle.facts_entry.specs.declared.Entry.TheVariants.{Silent, Announced, Traded, Cancelled, Erred, Corrected}
use Rattle.facts_entry.specs.Entry.{conditions_in, part_in, volume_in, fact_in, conditions_as, part_as, volume_as, entry_of}

conditions_back : (x : Conditions) → conditions_as (conditions_in x) ≡ x
unfolding conditions_as conditions_in
conditions_back x = refl

part_back : (x : Part) → part_as (part_in x) ≡ x
unfolding part_as part_in
part_back (Full price x volume) = ap (λ (y : Conditions). Full price y volume) (conditions_back x)
part_back (Bare x) = ap Bare (conditions_back x)

volume_back : (v : Option ℕ) → volume_as (volume_in v) ≡ v
unfolding volume_as volume_in
volume_back (Some n) = refl
volume_back None = refl

pub entry_back : (text : List ℕ) (e : Entry) → entry_of (fact_in text e) ≡ e
unfolding entry_of fact_in
entry_back text Silent = refl
entry_back text Announced = refl
entry_back text (Traded t) =
    ap (λ (x : Conditions). Traded (record { security = t.security; temporary = t.temporary; price = t.price; conditions = x; volume = volume_as (volume_in t.volume) })) (conditions_back t.conditions)
    ∙ ap (λ (v : Option ℕ). Traded (record { security = t.security; temporary = t.temporary; price = t.price; conditions = t.conditions; volume = v })) (volume_back t.volume)
entry_back text (Cancelled i x) = ap (Cancelled i) (part_back x)
entry_back text (Erred i x) = ap (Erred i) (part_back x)
entry_back text (Corrected i x y) = ap (λ (z : Part). Corrected i z (part_as (part_in y))) (part_back x) ∙ ap (Corrected i x) (part_back y)
