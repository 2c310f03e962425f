-- One call, put together: its print, its entry, the entry's line. Assumes nothing.
use Prim.Native.Nat.{ℕ, ◌≤◌}
use native.Mathlib.Omega.{arith}
use mathlib.Core.Path.{◌≡◌, refl, ap, ◌∙◌}
use mathlib.Core.List.{List}
use lib.ListN.{length, take, drop, length-append, length-take}
use Rattle.text.specs.Put.{put, Written}
use Rattle.rules.specs.Day.{Day, tape_of, after, ample}
use Rattle.rules.specs.Shown.{shown_by}
use Rattle.rules.specs.declared.Settings.{Settings}
use Rattle.rules.specs.Sizes.{longest_print}
use Rattle.call_table.specs.Sizes.{table_size, names_size}
use Rattle.call_table.specs.Rows.{day_of}
use Rattle.engine.specs.declared.Answer.{Answer}
use Rattle.engine.specs.Taken.{asked, Taken, count_of}
use Rattle.call_print.specs.Print.{print_of}
use Rattle.claim_calls.specs.Run.{State, Lent}
use Rattle.claim_calls.proofs.Runs.{link_held}
use Rattle.facts_entry.specs.Entry.{fact_in}
use Rattle.facts_entry.specs.declared.Entry.{Entry}
use Rattle.facts_entry.proofs.Agree.{short_shown}
use Rattle.facts_line.specs.Lines.{line_of}
use Rattle.facts_line.proofs.Short.{entry_short}
use Rattle.feed_gather.specs.Gather.{Tells}
use Rattle.facts_block.specs.Shows.{facts_program, fact_room}

-- ---- the call: lent a tape of `longest_print` bytes, `n` of them printed

module _ (st : Settings) (table names line tape table' names' tape' : List ℕ) (a : Answer) (n : ℕ) (t : Taken st table names line tape table' names' tape' a) (count : n ≡ count_of a.outcome) where
  abbrev print : List ℕ
  print = print_of st names (asked st table names line (length tape))

  print_length : n ≡ length print
  print_length = count ∙ t.count_is

  pub count_fits : (m : ℕ) → length tape' ≡ m → n ≤ m
  unfolding put
  count_fits m e = omega (arith, print_length, e, ap length t.tape_is, length-append print (drop (length print) tape))

  pub count_taken : (m : ℕ) → length tape' ≡ m → n ≡ length (take n tape')
  count_taken m e = omega (arith, count_fits m e, length-take n tape')

  module _ (rows : length table ≡ table_size) (places : length names ≡ names_size) (size : length tape ≡ longest_print) where
    abbrev day : Day
    day = day_of st table names

    held : (take n tape' ≡ tape_of day (ample line)) × (day_of a.settings table' names' ≡ after day (ample line))
    held =
        let s : State = record { settings = st; table = table; names = names } in
        let m : State = record { settings = a.settings; table = table'; names = names' } in
        let c : Lent = record { line = line; tape = tape } in
        let h = link_held s m c tape' a t refl day (record { rows = rows; places = places }) refl in
        rw (count, ← size) h

    module _ (e : Entry) (told : fact_in (tape_of day (ample line)) e ≡ shown_by day (ample line)) where
      entry_is : fact_in (take n tape') e ≡ shown_by day (ample line)
      entry_is = ap (λ (x : List ℕ). fact_in x e) held.0 ∙ told

      pub entry_room : (m : ℕ) → length tape' ≡ longest_print → fact_room ≤ m → length (line_of (fact_in (take n tape') e)) ≤ m
      entry_room m z l =
          omega (arith, entry_short (take n tape') e (shown_by day (ample line)) entry_is (short_shown st table names line longest_print rows places), count_taken longest_print z, count_fits longest_print z)

      pub call_shown : (number : ℕ) (rest rest' : List ℕ) (k : ℕ) → Written (line_of (fact_in (take n tape') e)) rest rest' k
          → Tells facts_program st table names number line rest table' names' rest' (record { settings = a.settings; count = k })
      call_shown number rest rest' k w =
          record {
            settings_is = rw (← size) t.settings;
            table_is = rw (← size) t.table_is;
            names_is = rw (← size) t.names_is;
            out_is = rw (← entry_is) w;
          }
