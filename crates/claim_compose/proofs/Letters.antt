-- Letters that a print shows stand in four columns: every set of them tried. Assumes nothing.
use mathlib.Core.Path.{◌≡◌, refl, sym, ap, ◌∙◌}
use mathlib.Core.Bool.{Bool, true, false, ◌&&◌, ◌||◌, not}
use lib.Dec.{leb}
use Rattle.text.specs.Pick.{pick, opt, all, among}
use Rattle.text.specs.Reading.{span}
use Rattle.text.proofs.Texts.{and_left, and_right}
use Rattle.text.proofs.Booleans.{implied}
use Rattle.rules.specs.Columns.{is_blank, blank, word, filled, between}
use Rattle.rules.specs.Conditions.{is_condition, letters_formed, letters_in, unrepeated, none_of, at_most_one, lawful_letters}
use Rattle.rules.specs.Line.{is_printable}
use Rattle.rules.specs.declared.Letters.{Letters}
use Rattle.name_back.specs.Cut.{one_sold}
use borrow.Author.Tests.{not-true}
use Rattle.claim_compose.specs.Columns.{first_or, later, text_field, letters_text, letters_columns}
use Rattle.line_owed.specs.Shown.{letter_count, one_delivery, showable}

same_bool : Bool → Bool → Bool
same_bool true b = b
same_bool false b = not b

same_bool_lem : (a b : Bool) → same_bool a b ≡ true → a ≡ b
unfolding same_bool
same_bool_lem true true h = refl
same_bool_lem true false h = sym h
same_bool_lem false true h = h
same_bool_lem false false h = refl

same_letters : Letters → Letters → Bool
same_letters x y =
    same_bool x.o y.o
    && (same_bool x.s y.s
    && (same_bool x.l y.l
    && (same_bool x.n y.n
    && (same_bool x.m y.m
    && (same_bool x.c y.c
    && (same_bool x.k y.k
    && (same_bool x.b y.b
    && (same_bool x.t y.t
    && (same_bool x.r y.r
    && (same_bool x.j y.j
    && same_bool x.g y.g))))))))))

same_letters_lem : (x y : Letters) → same_letters x y ≡ true → x ≡ y
unfolding same_letters
same_letters_lem x y h0 =
    let h1 = and_right (same_bool x.o y.o) _ h0 in
    let h2 = and_right (same_bool x.s y.s) _ h1 in
    let h3 = and_right (same_bool x.l y.l) _ h2 in
    let h4 = and_right (same_bool x.n y.n) _ h3 in
    let h5 = and_right (same_bool x.m y.m) _ h4 in
    let h6 = and_right (same_bool x.c y.c) _ h5 in
    let h7 = and_right (same_bool x.k y.k) _ h6 in
    let h8 = and_right (same_bool x.b y.b) _ h7 in
    let h9 = and_right (same_bool x.t y.t) _ h8 in
    let h10 = and_right (same_bool x.r y.r) _ h9 in
    let e0 = same_bool_lem x.o y.o (and_left _ _ h0) in
    let e1 = same_bool_lem x.s y.s (and_left _ _ h1) in
    let e2 = same_bool_lem x.l y.l (and_left _ _ h2) in
    let e3 = same_bool_lem x.n y.n (and_left _ _ h3) in
    let e4 = same_bool_lem x.m y.m (and_left _ _ h4) in
    let e5 = same_bool_lem x.c y.c (and_left _ _ h5) in
    let e6 = same_bool_lem x.k y.k (and_left _ _ h6) in
    let e7 = same_bool_lem x.b y.b (and_left _ _ h7) in
    let e8 = same_bool_lem x.t y.t (and_left _ _ h8) in
    let e9 = same_bool_lem x.r y.r (and_left _ _ h9) in
    let e10 = same_bool_lem x.j y.j (and_left _ _ h10) in
    let e11 = same_bool_lem x.g y.g (and_right (same_bool x.j y.j) _ h10) in
    alike e0 e1 e2 e3 e4 e5 e6 e7 e8 e9 e10 e11
  where
    alike : {o s l n m c k b t r j g : Bool} → x.o ≡ o → x.s ≡ s → x.l ≡ l → x.n ≡ n → x.m ≡ m → x.c ≡ c → x.k ≡ k → x.b ≡ b → x.t ≡ t → x.r ≡ r → x.j ≡ j → x.g ≡ g
        → x ≡ record { o = o; s = s; l = l; n = n; m = m; c = c; k = k; b = b; t = t; r = r; j = j; g = g }
    alike e0 e1 e2 e3 e4 e5 e6 e7 e8 e9 e10 e11 = rw (← e0, ← e1, ← e2, ← e3, ← e4, ← e5, ← e6, ← e7, ← e8, ← e9, ← e10, ← e11)

-- ---- every set of letters

every : (Bool → Bool) → Bool
every f = f true && f false

every_one : (f : Bool → Bool) → every f ≡ true → (b : Bool) → f b ≡ true
unfolding every
every_one f h true = and_left (f true) (f false) h
every_one f h false = and_right (f true) (f false) h

-- what is asked: the four columns are formed, lawful, say the letters, and are printable
fine : Letters → Bool
fine x =
    not (showable x)
    || (letters_formed (letters_columns x)
    && (lawful_letters (letters_columns x)
    && (same_letters (letters_in (letters_columns x)) x
    && all is_printable (letters_columns x))))

every_letters : Bool
every_letters = every (λ o. every (λ s. every (λ l. every (λ m. every (λ k. every (λ b. every (λ t. every (λ r. every (λ j. every (λ g. fine (record { o = o; s = s; l = l; n = false; m = m; c = false; k = k; b = b; t = t; r = r; j = j; g = g })))))))))))

tried : every_letters ≡ true
unfolding every_letters every fine showable letter_count one_sold one_delivery pick letters_columns letters_text text_field first_or later opt letters_formed filled blank word span is_blank is_condition among all lawful_letters unrepeated at_most_one none_of letters_in same_letters same_bool is_printable between
tried = refl

module _ (x : Letters) (n : x.n ≡ false) (c : x.c ≡ false) where
  fine_letters : fine x ≡ true
  unfolding every_letters
  fine_letters =
      let e0 = every_one _ tried x.o in
      let e1 = every_one _ e0 x.s in
      let e2 = every_one _ e1 x.l in
      let e3 = every_one _ e2 x.m in
      let e4 = every_one _ e3 x.k in
      let e5 = every_one _ e4 x.b in
      let e6 = every_one _ e5 x.t in
      let e7 = every_one _ e6 x.r in
      let e8 = every_one _ e7 x.j in
      let e9 = every_one _ e8 x.g in
      ap (λ a. fine (record { o = x.o; s = x.s; l = x.l; n = a; m = x.m; c = x.c; k = x.k; b = x.b; t = x.t; r = x.r; j = x.j; g = x.g })) n
      ∙ ap (λ a. fine (record { o = x.o; s = x.s; l = x.l; n = false; m = x.m; c = a; k = x.k; b = x.b; t = x.t; r = x.r; j = x.j; g = x.g })) c
      ∙ e9

-- what the four columns say
pub record Said (x : Letters) : Type 0 where
  pub formed : letters_formed (letters_columns x) ≡ true
  pub lawful : lawful_letters (letters_columns x) ≡ true
  pub letters : letters_in (letters_columns x) ≡ x
  pub printable : all is_printable (letters_columns x) ≡ true

pub letters_said : (x : Letters) → showable x ≡ true → Said x
unfolding showable fine
letters_said x h0 =
    let h1 = and_right (not x.n) _ h0 in
    let n = not-true x.n (and_left (not x.n) _ h0) in
    let c = not-true x.c (and_left (not x.c) _ h1) in
    let e = implied (not x.n && (not x.c && (leb (letter_count x) 4 && (one_sold x && one_delivery x)))) _ h0 (fine_letters x n c) in
    let e1 = and_right (letters_formed (letters_columns x)) _ e in
    let e2 = and_right (lawful_letters (letters_columns x)) _ e1 in
    record {
      formed = and_left (letters_formed (letters_columns x)) _ e;
      lawful = and_left (lawful_letters (letters_columns x)) _ e1;
      letters = same_letters_lem (letters_in (letters_columns x)) x (and_left (same_letters (letters_in (letters_columns x)) x) _ e2);
      printable = and_right (same_letters (letters_in (letters_columns x)) x) _ e2;
    }
