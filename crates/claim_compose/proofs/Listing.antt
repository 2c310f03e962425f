-- The S line that enters a security is accepted on a day with nothing entered. Assumes nothing.
use Prim.Native.Nat.{ℕ, suc, zero, ◌^◌, ◌≤◌, ◌<◌}
use native.Mathlib.Omega.{arith}
use mathlib.Core.Path.{◌≡◌, refl, ap, ◌∙◌}
use mathlib.Core.Bool.{Bool, true, false, ◌&&◌, ◌||◌}
use mathlib.Core.List.{List, [], ◌∷◌}
use mathlib.Core.Option.{Option, none}
use lib.Dec.{eqb}
use lib.ListN.{take, length, replicate}
use borrow.Author.Tests.{eqb-true}
use Rattle.text.specs.Pick.{pick, all, among}
use Rattle.text.proofs.Parts.{all_append}
use Rattle.rules.specs.Columns.{columns, column, blank, is_blank, number_in, is_number, value_of, between}
use Rattle.rules.specs.Line.{is_printable, is_shaped, is_kind, is_market, is_network, is_unit, is_security_number, listing_formed, listing_ranged, listing_of, name_columns, of_kind, is_formed, is_ranged, line_of}
use Rattle.rules.specs.Refusal.{refuse}
use Rattle.rules.specs.Day.{cleared, vacant, no_name, is_entered, taken_name, listing_refusal, state_refusal, undated, refusal_of, print_of}
use Rattle.rules.specs.NormalPrint.{level_day}
use Rattle.rules.specs.declared.Number.TheVariants.{Is}
use Rattle.rules.specs.declared.Listing.{Listing}
use Rattle.rules.specs.declared.Line.TheVariants.{Listed}
use Rattle.rules.specs.declared.Refusal.{Refusal}
use Rattle.rules.specs.Sizes.{width}
use Rattle.text.proofs.Booleans.{false_true}
use Rattle.claim_compose.specs.Columns.{digits_before, number_field, later, text_field, blanks}
use Rattle.claim_compose.specs.Lines.{listing_line}
use Rattle.line_owed.specs.Shown.{Enterable}
use Rattle.claim_compose.proofs.ByKind.{line_by, formed_by, ranged_by}
use Rattle.claim_compose.proofs.Fields.{number_back, text_filled, printable_number}

pub blanks_printable : (k : ℕ) → all is_printable (blanks k) ≡ true
unfolding blanks all is_printable between
blanks_printable zero = refl
blanks_printable (suc k) = blanks_printable k

pub blanks_blank : (k : ℕ) → blank (blanks k) ≡ true
unfolding blanks blank all is_blank
blanks_blank zero = refl
blanks_blank (suc k) = blanks_blank k

-- what the line says
unfoldable pub listed_as : ℕ → ℕ → Listing
listed_as network unit = record { number = 1; unit = unit; network = network; market = 65; first = 0; lawful = true }

module _ (network unit : ℕ) (name : List ℕ) where
  long : length (listing_line network unit name) ≡ width
  unfolding listing_line number_field digits_before text_field blanks
  long = refl

  number_there : number_in (columns 2 5 (listing_line network unit name)) ≡ Is 1
  unfolding listing_line number_field digits_before text_field blanks
  number_there = number_back 3 1 (omega arith)

  name_there : name_columns (listing_line network unit name) ≡ text_field 19 name
  unfolding listing_line number_field digits_before text_field blanks
  name_there = refl

  root_there : columns 6 11 (listing_line network unit name) ≡ take 6 (name_columns (listing_line network unit name))
  unfolding listing_line number_field digits_before text_field blanks
  root_there = refl

  unit_there : unit < 10 ^ 3 → number_in (columns 25 27 (listing_line network unit name)) ≡ Is unit
  unfolding listing_line number_field digits_before text_field blanks
  unit_there h = number_back 2 unit h

  network_there : column 28 (listing_line network unit name) ≡ network
  unfolding listing_line number_field digits_before text_field blanks
  network_there = refl

  market_there : column 29 (listing_line network unit name) ≡ 65
  unfolding listing_line number_field digits_before text_field blanks
  market_there = refl

  first_there : number_in (columns 30 30 (listing_line network unit name)) ≡ Is 0
  unfolding listing_line number_field digits_before text_field blanks
  first_there = number_back 0 0 (omega arith)

  rest_there : columns 31 width (listing_line network unit name) ≡ blanks 70
  unfolding listing_line number_field digits_before text_field blanks
  rest_there = refl

  pub kind_there : column 1 (listing_line network unit name) ≡ 83
  unfolding listing_line number_field digits_before text_field blanks
  kind_there = refl

printable_a : is_printable 65 ≡ true
unfolding is_printable between
printable_a = refl

printable_b : is_printable 66 ≡ true
unfolding is_printable between
printable_b = refl

s_printable : all is_printable (83 ∷ []) ≡ true
unfolding all is_printable between
s_printable = refl

three_printable : (n : ℕ) → is_printable n ≡ true → all is_printable (n ∷ 65 ∷ 48 ∷ []) ≡ true
unfolding all is_printable between
three_printable n h = rw h

pub shape : (s : List ℕ) → length s ≡ width → all is_printable s ≡ true → (eqb (length s) 100 && all is_printable s) ≡ true
shape s h l = rw (h, l)

pub not_zero : (n : ℕ) → 1 ≤ n → eqb n 0 ≡ false
not_zero n h = go (eqb n 0) refl
  where
    go : (b : Bool) → eqb n 0 ≡ b → b ≡ false
    go true e = absurd (omega (eqb-true n 0 e, h, arith))
    go false e = refl

-- a unit of trading has at most three digits
unit_small : (n : ℕ) → is_unit n ≡ true → n < 10 ^ 3
unfolding is_unit among
unit_small n h = go (eqb n 1) refl (eqb n 10) refl (eqb n 25) refl (eqb n 50) refl (eqb n 100) refl h
  where
    go : (a : Bool) → eqb n 1 ≡ a → (b : Bool) → eqb n 10 ≡ b → (c : Bool) → eqb n 25 ≡ c → (d : Bool) → eqb n 50 ≡ d → (e : Bool) → eqb n 100 ≡ e → (a || (b || (c || (d || (e || false))))) ≡ true → n < 10 ^ 3
    go true p b q c r d s e t h = omega (eqb-true n 1 p, arith)
    go false p true q c r d s e t h = omega (eqb-true n 10 q, arith)
    go false p false q true r d s e t h = omega (eqb-true n 25 r, arith)
    go false p false q false r true s e t h = omega (eqb-true n 50 s, arith)
    go false p false q false r false s true t h = omega (eqb-true n 100 t, arith)
    go false p false q false r false s false t h = absurd (false_true h)

network_printable : (n : ℕ) → is_network n ≡ true → is_printable n ≡ true
unfolding is_network among
network_printable n h = go (eqb n 65) refl (eqb n 66) refl h
  where
    go : (a : Bool) → eqb n 65 ≡ a → (b : Bool) → eqb n 66 ≡ b → (a || (b || false)) ≡ true → is_printable n ≡ true
    go true p b q h = ap is_printable (eqb-true n 65 p) ∙ printable_a
    go false p true q h = ap is_printable (eqb-true n 66 q) ∙ printable_b
    go false p false q h = absurd (false_true h)

none_entered : (name : List ℕ) (k : ℕ) (names : List (List ℕ)) → taken_name name (replicate k vacant) names ≡ false
unfolding taken_name is_entered vacant
none_entered name zero names = refl
none_entered name (suc k) [] = refl
none_entered name (suc k) (n ∷ names) = none_entered name k names

module _ (network unit : ℕ) (name : List ℕ) (h : Enterable network unit name) where
  pub name_is : name_columns (listing_line network unit name) ≡ name
  name_is = name_there network unit name ∙ text_filled 19 name h.sized

  root_is : columns 6 11 (listing_line network unit name) ≡ take 6 name
  root_is = root_there network unit name ∙ ap (take 6) name_is

  unit_is : number_in (columns 25 27 (listing_line network unit name)) ≡ Is unit
  unit_is = unit_there network unit name (unit_small unit h.trades_in)

  shaped : is_shaped (listing_line network unit name) ≡ true
  unfolding is_shaped listing_line
  shaped =
      let e = all_append is_printable _ (blanks 70)
      (all_append is_printable _ (network ∷ 65 ∷ 48 ∷ [])
      (all_append is_printable _ (number_field 3 unit)
      (all_append is_printable _ (text_field 19 name)
      (all_append is_printable (83 ∷ []) (number_field 4 1) s_printable (printable_number 4 1))
      (ap (all is_printable) (text_filled 19 name h.sized) ∙ h.printable))
      (printable_number 3 unit))
      (three_printable network (network_printable network h.on)))
      (blanks_printable 70) in
      shape (listing_line network unit name) (long network unit name) e

  formed : listing_formed (listing_line network unit name) ≡ true
  unfolding listing_formed is_number is_market among
  formed = rw (number_there network unit name, root_is, h.plain.root, unit_is, network_there network unit name, h.on, market_there network unit name, first_there network unit name, rest_there network unit name, blanks_blank 70)

  ranged : listing_ranged (listing_line network unit name) ≡ true
  unfolding listing_ranged value_of is_security_number between
  ranged = rw (number_there network unit name, unit_is, h.trades_in, first_there network unit name)

  said : listing_of (listing_line network unit name) ≡ listed_as network unit
  unfolding listing_of value_of listed_as
  said = rw (number_there network unit name, unit_is, network_there network unit name, market_there network unit name, first_there network unit name, name_is, h.plain.lawful)

  pub listed_line : line_of (listing_line network unit name) ≡ Listed (listed_as network unit)
  unfolding of_kind pick
  listed_line = line_by 83 (listing_line network unit name) (kind_there network unit name) ∙ ap Listed said

  is_formed_lem : is_formed (listing_line network unit name) ≡ true
  unfolding of_kind pick
  is_formed_lem = formed_by 83 (listing_line network unit name) (kind_there network unit name) ∙ formed

  is_ranged_lem : is_ranged (listing_line network unit name) ≡ true
  unfolding of_kind pick
  is_ranged_lem = ranged_by 83 (listing_line network unit name) (kind_there network unit name) ∙ ranged

  module _ (date level minimum : ℕ) (d : 1 ≤ date) where
    not_undated : undated (level_day date level minimum) ≡ false
    unfolding undated level_day
    not_undated = not_zero date d

    unstopped : (later : Option Refusal) → listing_refusal (level_day date level minimum) name (listed_as network unit) later ≡ later
    unfolding listing_refusal listed_as level_day cleared refuse pick is_entered vacant
    unstopped later = rw (none_entered name 512 (replicate 512 no_name))

    pub listing_accepted : refusal_of (level_day date level minimum) (listing_line network unit name) 0 ≡ none
    unfolding refusal_of refuse pick state_refusal print_of is_kind among
    listing_accepted = rw (shaped, kind_there network unit name, not_undated, is_formed_lem, is_ranged_lem, listed_line, name_is, unstopped)
