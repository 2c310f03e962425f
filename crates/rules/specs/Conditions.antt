-- Document 01, "Price and conditions" (001, 3.5): condition letters, their exclusions, order and texts. Assumes nothing.
use Rattle.std.specs.Prelude.{ℕ, Bool, true, ◌&&◌, ◌||◌, not, List, [], ◌∷◌, ◌++◌, eqb}
use Rattle.text.specs.Bytes.{bytes}
use Rattle.text.specs.Pick.{pick, opt, among}
use Rattle.text.specs.Decimal.{decimal}
use Rattle.rules.specs.Columns.{word, filled}
use Rattle.rules.specs.Price.{price_text}
use Rattle.rules.specs.declared.Letters.{Letters}
use Rattle.rules.specs.declared.Price.{Price}
use Rattle.rules.specs.declared.Side.{Side}
use Rattle.rules.specs.declared.PriceForm.TheVariants.{Full}

-- O opened, S sold, L sold last, N next day, M next day only, C cash, K cash only, B average, T stopped, R seller, J Rule 127, G Rule 155
unfoldable pub is_condition : ℕ → Bool
is_condition c = among c (bytes "OSLNMCKBTRJG")

-- four columns, filled from the left
unfoldable pub letters_formed : List ℕ → Bool
letters_formed field = filled is_condition field

-- the letters that stand in them
unfoldable pub letters_in : List ℕ → Letters
letters_in field = record {
  o = among 79 (word field);
  s = among 83 (word field);
  l = among 76 (word field);
  n = among 78 (word field);
  m = among 77 (word field);
  c = among 67 (word field);
  k = among 75 (word field);
  b = among 66 (word field);
  t = among 84 (word field);
  r = among 82 (word field);
  j = among 74 (word field);
  g = among 71 (word field);
}

-- no letter stands twice
unfoldable pub unrepeated : List ℕ → Bool
unrepeated [] = true
unrepeated (c ∷ s) = not (among c s) && unrepeated s

-- none of the group's letters stands in the text
unfoldable pub none_of : List ℕ → List ℕ → Bool
none_of group [] = true
none_of group (c ∷ s) = not (among c group) && none_of group s

-- at most one letter of the group stands in the text
unfoldable pub at_most_one : List ℕ → List ℕ → Bool
at_most_one group [] = true
at_most_one group (c ∷ s) = pick (among c group) (none_of group s) (at_most_one group s)

-- letters not repeated; at most one of O S L; one of N M C K R
unfoldable pub lawful_letters : List ℕ → Bool
lawful_letters field = unrepeated (word field) && (at_most_one (bytes "OSL") (word field) && at_most_one (bytes "NMCKR") (word field))

-- J on network A only, G on B only
unfoldable pub on_network : ℕ → Letters → Bool
on_network network x = (not x.j || eqb network 65) && (not x.g || eqb network 66)

-- J or G
unfoldable pub has_rule : Letters → Bool
has_rule x = x.j || x.g

-- after the name: .ND (N, M), then .OPD, .SLD or .SLD.LAST
unfoldable pub after_name : Letters → List ℕ
after_name x = opt (x.n || x.m) (bytes ".ND") ++ opt x.o (bytes ".OPD") ++ opt x.s (bytes ".SLD") ++ opt x.l (bytes ".SLD.LAST")

-- after the price: `,c` (C, K), `,b`, `t`
unfoldable pub after_price : Letters → List ℕ
after_price x = opt (x.c || x.k) (bytes ",c") ++ opt x.b (bytes ",b") ++ opt x.t (bytes "t")

-- SELLER and days
unfoldable pub seller_text : ℕ → List ℕ
seller_text days = bytes "SELLER" ++ decimal days

-- `>>PREV.LAST`, previous last in full, `>>`
unfoldable pub previous_text : Price → List ℕ
previous_text p = bytes ">>PREV.LAST" ++ price_text Full p ++ bytes ">>"

-- at the end: SELLER and days; RULE127; previous last
unfoldable pub at_end : Side → List ℕ
at_end x = opt x.letters.r (seller_text x.days) ++ opt x.letters.j (bytes "RULE127") ++ opt x.letters.g (previous_text x.previous)
