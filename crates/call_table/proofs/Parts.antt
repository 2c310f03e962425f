-- A security loaded and stored part by part, in the form of the code's needs. Assumes nothing.
use Prim.Native.Nat.{ℕ, ◌+◌, ◌*◌}
use mathlib.Core.Path.{◌≡◌}
use mathlib.Core.List.{List}
use Rattle.rules.specs.declared.Issue.{Issue}
use Rattle.rules.specs.declared.Printed.{Printed}
use Rattle.rules.specs.declared.Range.{Range}
use Rattle.rules.specs.declared.Counts.{Counts}
use Rattle.rules.specs.declared.Security.{Security}
use Rattle.call_table.specs.Sizes.{issue_at, printed_at, range_at, counts_at, row_size}
use Rattle.call_table.specs.Rows.{issue_in, printed_in, range_in, counts_in, issue_numbers, printed_numbers, range_numbers, counts_numbers, stored_from, row, with_row}

module _ (t : List ℕ) (i : ℕ) where
  pub loaded : (issue : Issue) (printed : Printed) (range : Range) (counts : Counts)
      → issue ≡ issue_in t (i * row_size + issue_at)
      → printed ≡ printed_in t (i * row_size + printed_at)
      → range ≡ range_in t (i * row_size + range_at)
      → counts ≡ counts_in t (i * row_size + counts_at)
      → record { issue = issue; printed = printed; range = range; counts = counts } ≡ row t i
  loaded issue printed range counts e f g h = rw (e, f, g, h)

  pub stored : (s : Security) (t₁ t₂ t₃ t₄ : List ℕ)
      → t₁ ≡ stored_from t (i * row_size + issue_at) 0 (issue_numbers s.issue)
      → t₂ ≡ stored_from t₁ (i * row_size + printed_at) 0 (printed_numbers s.printed)
      → t₃ ≡ stored_from t₂ (i * row_size + range_at) 0 (range_numbers s.range)
      → t₄ ≡ stored_from t₃ (i * row_size + counts_at) 0 (counts_numbers s.counts)
      → t₄ ≡ with_row t i s
  stored s t₁ t₂ t₃ t₄ e f g h = rw (h, g, f, e)
