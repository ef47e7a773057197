-- Rows that are among others, with their copies.
use Rattle.std.specs.Prelude.{Bool, List, None, Option, Some, [], false, filter, refl, true, ◌+◌, ◌-◌, ◌∷◌, ◌≡◌, ◌≢◌, ◌≤◌}
use Rattle.std.proofs.Common.{ap, arith, cond}
use Rattle.tt_plain.specs.declared.store.PlainPending.{PlainPending}
use Rattle.tt_plain.specs.law.Isolated.{AreAmong}
use Rattle.tt_plain.specs.opening.Seen.{changed_rows, rows_with}
use Rattle.tt_value.proofs.values.Bags.{copies_of-bag_minus, copies_of-bag_plus, copies_of-cons, minus_none, one_if, same_itself}
use Rattle.tt_value.specs.declared.value.Row.{Row}
use Rattle.tt_value.specs.values.Bags.{bag_minus, bag_plus, copies_of}

no_copies : (rows : List Row) → ((row : Row) → copies_of row rows ≡ 0) → rows ≡ []
no_copies [] none = refl
no_copies (r ∷ rows) none = absurd (omega (arith, none r, copies_of-cons r r rows, ap one_if (same_itself r)))

pub among_from : (rows others : List Row) → ((row : Row) → copies_of row rows ≤ copies_of row others) → AreAmong rows others
among_from rows others few = no_copies (bag_minus rows others) (λ row. omega (arith, copies_of-bag_minus row rows others, few row))

pub among_to : (rows others : List Row) → AreAmong rows others → (row : Row) → copies_of row rows ≤ copies_of row others
among_to rows others among row = omega (arith, copies_of-bag_minus row rows others, ap (copies_of row) among)

pub among_itself : (rows : List Row) → AreAmong rows rows
among_itself rows = among_from rows rows (λ row. omega arith)

pub among_on : (a b c : List Row) → AreAmong a b → AreAmong b c → AreAmong a c
among_on a b c left right = among_from a c (λ row. omega (arith, among_to a b left row, among_to b c right row))

-- no row is among any
pub unless_none : (rows others : List Row) → (rows ≢ [] → AreAmong rows others) → AreAmong rows others
unless_none [] others some = minus_none others
unless_none (r ∷ rows) others some = some (λ e. cc)

-- ---- where there are more rows

pub among_plus : (rows now later added : List Row) → AreAmong rows (bag_plus now added) → AreAmong now later → AreAmong rows (bag_plus later added)
among_plus rows now later added among more =
    among_from rows (bag_plus later added) (λ row.
    omega (arith, among_to rows (bag_plus now added) among row, among_to now later more row, copies_of-bag_plus row now added, copies_of-bag_plus row later added))

copies_with : (row : Row) (rows : List Row) (pending : PlainPending) → copies_of row (rows_with rows pending) ≡ (copies_of row rows + copies_of row pending.added) - copies_of row pending.gone
copies_with row rows pending = omega (arith, copies_of-bag_minus row (bag_plus rows pending.added) pending.gone, copies_of-bag_plus row rows pending.added)

pub among_changed : (rows now later : List Row) (pending : Option PlainPending) → AreAmong rows (changed_rows now pending) → AreAmong now later → AreAmong rows (changed_rows later pending)
among_changed rows now later None among more = among_on rows now later among more
among_changed rows now later (Some pending) among more =
    among_from rows (rows_with later pending) (λ row.
    omega (arith, among_to rows (rows_with now pending) among row, among_to now later more row, copies_with row now pending, copies_with row later pending))

-- where nothing is gone there are only more rows
pub among_added : (rows : List Row) (pending : PlainPending) → pending.gone ≡ [] → AreAmong rows (rows_with rows pending)
among_added rows pending none = among_from rows (rows_with rows pending) (λ row. omega (arith, copies_with row rows pending, ap (copies_of row) none))

-- what is removed of the visible rows is among all, with what is gone already
pub among_removed : (now removed more : List Row) (pending : PlainPending) → AreAmong pending.gone (bag_plus now pending.added) → AreAmong removed (rows_with now pending)
    → AreAmong (bag_plus pending.gone removed) (bag_plus now (bag_plus pending.added more))
among_removed now removed more pending gone visible =
    among_from (bag_plus pending.gone removed) (bag_plus now (bag_plus pending.added more)) (λ row.
    omega (
      arith,
      among_to pending.gone (bag_plus now pending.added) gone row,
      among_to removed (rows_with now pending) visible row,
      copies_with row now pending,
      copies_of-bag_plus row now pending.added,
      copies_of-bag_plus row pending.gone removed,
      copies_of-bag_plus row now (bag_plus pending.added more),
      copies_of-bag_plus row pending.added more,
    ))

pub among_first : (now removed more : List Row) → AreAmong removed now → AreAmong (bag_plus [] removed) (bag_plus now (bag_plus [] more))
among_first now removed more among =
    among_from (bag_plus [] removed) (bag_plus now (bag_plus [] more)) (λ row.
    omega (arith, among_to removed now among row, copies_of-bag_plus row [] removed, copies_of-bag_plus row now (bag_plus [] more)))

-- ---- rows that a test takes

few_by : (b : Bool) (row r : Row) (rest rows : List Row) → copies_of row rest ≤ copies_of row rows → copies_of row (cond b (r ∷ rest) rest) ≤ copies_of row (r ∷ rows)
few_by true row r rest rows few = omega (arith, few, copies_of-cons row r rest, copies_of-cons row r rows)
few_by false row r rest rows few = omega (arith, few, copies_of-cons row r rows)

few_taken : (test : Row → Bool) (rows : List Row) (row : Row) → copies_of row (filter test rows) ≤ copies_of row rows
few_taken test [] row = omega arith
few_taken test (r ∷ rows) row = few_by (test r) row r (filter test rows) rows (few_taken test rows row)

pub among_filter : (test : Row → Bool) (rows : List Row) → AreAmong (filter test rows) rows
among_filter test rows = among_from (filter test rows) rows (few_taken test rows)
