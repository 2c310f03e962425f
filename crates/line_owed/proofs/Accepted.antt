-- What an accepted line owes, from the refusals that did not stop it. Assumes nothing.
use Prim.Native.Nat.{ℕ}
use mathlib.Core.Path.{◌≡◌}
use mathlib.Core.Bool.{true, ◌&&◌, not}
use mathlib.Core.List.{List}
use mathlib.Core.Option.{Option, none}
use lib.Dec.{ltb, eqb}
use lib.ListN.{length}
use borrow.Author.Tests.{not-false, ltb-false}
use Rattle.text.proofs.Texts.{and_left, and_right}
use Rattle.rules.specs.Columns.{column}
use Rattle.rules.specs.Conditions.{on_network}
use Rattle.rules.specs.Line.{is_shaped, is_kind, is_formed, is_ranged, line_of, name_columns}
use Rattle.rules.specs.Refusal.{refuse}
use Rattle.rules.specs.Day.{Day, print_of, security_at, is_entered, taken_name, state_refusal, date_refusal, listing_refusal, trade_refusal, correction_refusal, undated, refusal_of}
use Rattle.rules.specs.declared.Trade.{Trade}
use Rattle.rules.specs.declared.Security.{Security}
use Rattle.rules.specs.declared.Line.{Line}
use Rattle.rules.specs.declared.Line.TheVariants.{Dated, Listed, Moded, Leveled, Stepped, Traded, Cancelled, Erred, Corrected}
use Rattle.rules.specs.declared.Refusal.{Refusal}
use Rattle.rules.specs.declared.Refusal.TheVariants.{Shape, Kind, NoDate, Form, Value, NotEntered, InUse, Name, SameName, Conditions, Unmatched, DateOrder, Room}
use Rattle.rules.proofs.Days.{passed}
use Rattle.line_owed.specs.Owed.{OwedTrade, OwedLine, StandsLine}
use Rattle.line_owed.specs.Accepted.{AcceptedTrade, AcceptedLine, Accepted}
use Rattle.line_owed.proofs.Owed.{long, owed_line, stands_line}

-- ---- the refusals by the state: what is asked after them is asked too

module _ (later : Option Refusal) where
  trade_accepted : (s : Security) (t : Trade) → OwedTrade t → trade_refusal s t later ≡ none → AcceptedTrade s t × (later ≡ none)
  unfolding trade_refusal
  trade_accepted s t h e =
      let a = passed (not (is_entered s)) NotEntered _ e in
      let b = passed (not (t.lawful && on_network s.issue.network t.side.letters)) Conditions _ a.1 in
      let c = passed (not t.matched) Unmatched _ b.1 in
      let k = not-false (t.lawful && on_network s.issue.network t.side.letters) b.0 in
      (record { owed = h; entered_there = not-false (is_entered s) a.0; shows = h.shows s.issue.network (and_left t.lawful _ k) (and_right t.lawful _ k) (not-false t.matched c.0) }, c.1)

  line_accepted : (day : Day) (line : List ℕ) (l : Line) → is_shaped line ≡ true → OwedLine l → StandsLine line l → state_refusal day (name_columns line) l later ≡ none → AcceptedLine day (name_columns line) l × (later ≡ none)
  unfolding state_refusal OwedLine StandsLine AcceptedLine date_refusal listing_refusal correction_refusal
  line_accepted day line (Dated n) s h w e = (tt, (passed _ DateOrder _ e).1)
  line_accepted day line (Listed l) s h w e =
      let a = passed (is_entered (security_at day l.number)) InUse _ e in
      let b = passed (not l.lawful) Name _ a.1 in
      let c = passed (taken_name (name_columns line) day.securities day.names) SameName _ b.1 in
      (record { owed = h; enters = w s (not-false l.lawful b.0); vacant_place = a.0; free_name = c.0 }, c.1)
  line_accepted day line (Moded m) s h w e = (tt, e)
  line_accepted day line (Leveled n) s h w e = (h, e)
  line_accepted day line (Stepped n) s h w e = (h, e)
  line_accepted day line (Traded t) s h w e = trade_accepted _ t h e
  line_accepted day line (Cancelled t) s h w e = trade_accepted _ t h e
  line_accepted day line (Erred t) s h w e = trade_accepted _ t h e
  line_accepted day line (Corrected c) s h w e =
      let y = security_at day c.security in
      let on = on_network y.issue.network c.original.letters && on_network y.issue.network c.correcting.letters in
      let a = passed (not (is_entered y)) NotEntered _ e in
      let b = passed (not (c.lawful && on)) Conditions _ a.1 in
      let m = passed (not c.matched) Unmatched _ b.1 in
      let p = not-false (c.lawful && on) b.0 in
      let k = and_left c.lawful on p in
      let o = and_right c.lawful on p in
      let q = not-false c.matched m.0 in (
        record {
          owed = h;
          entered_there = not-false (is_entered y) a.0;
          shows_original = h.shows_original y.issue.network k (and_left (on_network y.issue.network c.original.letters) _ o) q;
          shows_correcting = h.shows_correcting y.issue.network k (and_right (on_network y.issue.network c.original.letters) _ o) q;
        },
        m.1,
      )

-- ANY LINE THAT IS NOT REFUSED
pub accepted : (day : Day) (line : List ℕ) (room : ℕ) → refusal_of day line room ≡ none → Accepted day line room
unfolding refusal_of
accepted day line room free =
    let a = passed (not (is_shaped line)) Shape _ free in
    let b = passed (not (is_kind (column 1 line))) Kind _ a.1 in
    let c = passed (not (eqb (column 1 line) 68) && undated day) NoDate _ b.1 in
    let d = passed (not (is_formed line)) Form _ c.1 in
    let e = passed (not (is_ranged line)) Value _ d.1 in
    let s = not-false (is_shaped line) a.0 in
    let f = not-false (is_formed line) d.0 in
    let r = not-false (is_ranged line) e.0 in
    let z = line_accepted (refuse (ltb room (length (print_of day (line_of line)))) Room none) day line (line_of line) s (owed_line line r) (stands_line line (long line s) f r) e.1 in
    record {
      shaped = s;
      known = not-false (is_kind (column 1 line)) b.0;
      dated = c.0;
      formed = f;
      ranged = r;
      owes = z.0;
      fits = ltb-false room (length (print_of day (line_of line))) (passed _ Room _ z.1).0;
    }
