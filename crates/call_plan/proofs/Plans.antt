-- Laws of plans, in the form of the code's needs. Assumes nothing.
use Prim.Native.Nat.{ℕ, suc, ◌+◌, ◌-◌, ◌≤◌, ◌<◌}
use native.Mathlib.Omega.{arith}
use mathlib.Core.Path.{◌≡◌, sym, ap, ◌∙◌}
use mathlib.Core.Bool.{Bool, true, false, ◌&&◌}
use mathlib.Core.List.{List}
use Rattle.rules.specs.Names.{same_name}
use Rattle.rules.specs.Price.{whole_part, units, form_by}
use Rattle.rules.specs.Conditions.{has_rule}
use Rattle.rules.specs.Qualifying.{for_range, for_last}
use Rattle.decide_trade.specs.Value.{prints_by, full_by, shows_by, after_by}
use Rattle.decide_trade.proofs.Value.{side_prints, side_form, side_shows, side_after}
use Rattle.rules.specs.Day.{is_entered, shows_temporary, taken_name}
use Rattle.rules.specs.declared.Trade.{Trade}
use Rattle.rules.specs.declared.Settings.{Settings}
use Rattle.rules.specs.declared.Security.{Security}
use Rattle.call_table.specs.Rows.{row, name_of, rows_from, names_from}
use Rattle.call_plan.specs.Plan.{print_plan}
use Rattle.rules.specs.declared.PriceForm.{PriceForm}

-- ---- a name among those of entered securities

one_less : (i : ℕ) → i < 512 → 512 - i ≡ suc (512 - (i + 1))
one_less i h = omega arith

module _ (table names name : List ℕ) (i : ℕ) (r x : Bool) (left : taken_name name (rows_from (512 - i) i table) (names_from (512 - i) i names) ≡ x) (more : i < 512) (answer : r ≡ (is_entered (row table i) && same_name name (name_of names i))) where
  pub name_hit : r ≡ true → true ≡ x
  unfolding taken_name rows_from names_from
  name_hit h = rw (← left, one_less i more, ← answer, h)

  pub name_miss : r ≡ false → taken_name name (rows_from (512 - (i + 1)) (i + 1) table) (names_from (512 - (i + 1)) (i + 1) names) ≡ x
  unfolding taken_name rows_from names_from
  name_miss h = sym (rw (one_less i more, ← answer, h) (ap (λ (k : ℕ). taken_name name (rows_from (512 - (i + 1)) k table) (names_from (512 - (i + 1)) k names)) (omega arith))) ∙ left

pub name_none : (table names name : List ℕ) (i : ℕ) (x : Bool) → taken_name name (rows_from (512 - i) i table) (names_from (512 - i) i names) ≡ x → 512 ≤ i → false ≡ x
unfolding taken_name rows_from names_from
name_none table names name i x e h = let q : 512 - i ≡ 0 = omega arith in rw (← e, q)

-- ---- a trade

pub planned : (st : Settings) (s : Security) (t : Trade) (value whole : ℕ) (ranges lasts rule a b d : Bool) (c : PriceForm) (e : Security)
    → e ≡ after_by s t.market value b ranges lasts
    → d ≡ shows_by st s t.market t.side.volume lasts rule
    → c ≡ form_by (full_by st s t.market whole)
    → b ≡ prints_by st s t.market t.side.volume value ranges lasts rule
    → a ≡ shows_temporary s
    → value ≡ units t.side.price
    → whole ≡ whole_part t.side.price
    → ranges ≡ for_range t.side.letters
    → lasts ≡ for_last t.side.letters
    → rule ≡ has_rule t.side.letters
    → (record { place = t.security - 1; side = t.side; network = s.issue.network; unit = s.issue.unit; temporary = a; prints = b; form = c; shows = d; after = e }) ≡ print_plan st s t
unfolding print_plan
planned st s t value whole ranges lasts rule a b d c e o u r q p v w ra la ru =
    let x = t.side in
    let k = side_prints st s t.market x value ranges lasts rule b v ra la ru q in
    rw (p, side_after st s t.market x value b ranges lasts e v k ra la o, k, side_form st s t.market x whole c w r, side_shows st s t.market x lasts rule d la ru u)
