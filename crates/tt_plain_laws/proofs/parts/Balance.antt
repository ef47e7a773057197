-- What is pending in rows and in parts is one change: what the added parts hold and the gone ones do not was added or is gone.
use Rattle.std.specs.Prelude.{List, [], length, refl, unwrap_or, ℕ, ◌++◌, ◌+◌, ◌∷◌, ◌≡◌, ◌≢◌}
use Rattle.std.proofs.Common.{ap, arith, inl, inr, sym, ◌∙◌}
use Rattle.std.proofs.lemmas.Bool.{false≢true}
use Rattle.tt_layout.specs.Numbers.{IsAscending, changed, has, joined, without}
use Rattle.tt_plain.specs.declared.store.PlainPending.{PlainPending}
use Rattle.tt_plain.specs.declared.store.PlainSession.{PlainSession}
use Rattle.tt_plain.specs.declared.tally.Tally.{Tally}
use Rattle.tt_plain.specs.declared.tally.TallyPending.{TallyPending}
use Rattle.tt_plain.specs.effect.End.{nothing_pending}
use Rattle.tt_plain.specs.history.Contents.{rows_of_parts}
use Rattle.tt_plain.specs.law.Isolated.{AreAmong}
use Rattle.tt_plain.specs.law.Sound.{AreSoundLists}
use Rattle.tt_plain.specs.opening.Seen.{pending_of, rows_with}
use Rattle.tt_plain.specs.tally.Layouts.{lists_of}
use Rattle.tt_plain.specs.tally.Pending.{changed_lists, no_lists}
use Rattle.tt_value.proofs.values.Bags.{IsBag-bag_of, bags_same, copies_of-bag_minus, copies_of-bag_of, copies_of-bag_plus, copies_of-cons, one_if, same_itself}
use Rattle.tt_value.specs.declared.value.Row.{Row}
use Rattle.tt_value.specs.values.Bags.{IsBag, bag_of, bag_plus, copies_of}
use Rattle.tt_plain_laws.proofs.guard.Among.{among_to}
use Rattle.tt_plain_laws.proofs.parts.Contents.{Known, same_contents}
use Rattle.tt_plain_laws.proofs.parts.Numbers.{Outside, Within, copies-changed, copies-lists, copies_in, not_both, within_changed, within_joined, within_without}

-- ---- parts that hold rows

abbrev pub Hold : List (List Row) → List ℕ → List Row → Type 0
Hold contents parts rows = (row : Row) → copies_in contents row parts ≡ copies_of row rows

pub form_from : (contents : List (List Row)) (parts : List ℕ) (rows : List Row) → IsBag rows → Hold contents parts rows → bag_of (rows_of_parts contents parts) ≡ rows
form_from contents parts rows bag hold =
    bags_same (bag_of (rows_of_parts contents parts)) rows (IsBag-bag_of (rows_of_parts contents parts)) bag (λ row. copies_of-bag_of row (rows_of_parts contents parts) ∙ hold row)

pub hold_from : (contents : List (List Row)) (parts : List ℕ) (rows : List Row) → bag_of (rows_of_parts contents parts) ≡ rows → Hold contents parts rows
hold_from contents parts rows form row = sym (copies_of-bag_of row (rows_of_parts contents parts)) ∙ ap (copies_of row) form

-- ---- the lists of a session and a table

abbrev pub lists_now : Tally → ℕ → ℕ → TallyPending
lists_now tally session table = unwrap_or (lists_of tally session table) (no_lists session table)

abbrev pub pending_now : PlainSession → ℕ → PlainPending
pending_now state table = unwrap_or (pending_of state table) (nothing_pending table)

pub record IsBalanced (contents : List (List Row)) (current : List ℕ) (lists : TallyPending) (pending : PlainPending) : Type 0 where
  pub balance : (row : Row) → copies_in contents row lists.added + copies_of row pending.gone ≡ copies_in contents row lists.gone + copies_of row pending.added
  pub inside : Within lists.gone current
  pub outside : Outside lists.added current
  pub removes : lists.gone ≢ [] → pending.gone ≢ []

pub none_balanced : (contents : List (List Row)) (current : List ℕ) (session table : ℕ) → IsBalanced contents current (no_lists session table) (nothing_pending table)
none_balanced contents current session table = record {
  balance = λ row. refl;
  inside = λ k e. absurd (false≢true e);
  outside = λ k e. absurd (false≢true e);
  removes = λ some. absurd (some refl);
}

-- what a session sees is held by the parts that it sees
pub seen_hold : (contents : List (List Row)) (current : List ℕ) (lists : TallyPending) (pending : PlainPending) (rows : List Row) → IsBalanced contents current lists pending → IsAscending current → AreSoundLists lists
    → Hold contents current rows → AreAmong pending.gone (bag_plus rows pending.added) → Hold contents (changed current lists.gone lists.added) (rows_with rows pending)
seen_hold contents current lists pending rows balanced up lists_up hold among row =
    omega (
      arith,
      copies-changed contents row current lists.gone lists.added up lists_up.0 lists_up.1 balanced.inside balanced.outside,
      balanced.balance row,
      hold row,
      among_to pending.gone (bag_plus rows pending.added) among row,
      copies_of-bag_plus row rows pending.added,
      copies_of-bag_minus row (bag_plus rows pending.added) pending.gone,
    )

-- ---- over more contents, and another layout

pub more_balanced : (contents more : List (List Row)) (current : List ℕ) (lists : TallyPending) (pending : PlainPending) → Known (length contents) lists.gone → Known (length contents) lists.added
    → IsBalanced contents current lists pending → IsBalanced (contents ++ more) current lists pending
more_balanced contents more current lists pending gone added balanced = record {
  balance = λ row. omega (
    arith,
    ap (copies_of row) (same_contents contents more lists.added added),
    ap (copies_of row) (same_contents contents more lists.gone gone),
    balanced.balance row,
  );
  inside = balanced.inside;
  outside = balanced.outside;
  removes = balanced.removes;
}

within_some : (gone current : List ℕ) → (gone ≢ [] → Within gone current) → Within gone current
within_some [] current some k e = absurd (false≢true e)
within_some (n ∷ gone) current some k e = some (λ f. cc) k e

pub moved_balanced : (contents : List (List Row)) (current later : List ℕ) (lists : TallyPending) (pending : PlainPending) → (lists.gone ≢ [] → Within lists.gone later) → Outside lists.added later
    → IsBalanced contents current lists pending → IsBalanced contents later lists pending
moved_balanced contents current later lists pending inside outside balanced = record {
  balance = balanced.balance;
  inside = within_some lists.gone later inside;
  outside = outside;
  removes = balanced.removes;
}

-- ---- one more change

not_none_first : (a b : List Row) → a ≢ [] → bag_plus a b ≢ []
not_none_first [] b some e = some refl
not_none_first (r ∷ a) b some e =
    absurd (omega (arith, ap (copies_of r) e, copies_of-bag_plus r (r ∷ a) b, copies_of-cons r r a, ap one_if (same_itself r)))

pub not_none_second : (a b : List Row) → b ≢ [] → bag_plus a b ≢ []
not_none_second a [] some e = some refl
not_none_second a (r ∷ b) some e =
    absurd (omega (arith, ap (copies_of r) e, copies_of-bag_plus r a (r ∷ b), copies_of-cons r r b, ap one_if (same_itself r)))

-- what is gone afterwards was gone, or goes now
gone_either : (lost gone won : List ℕ) → joined lost (without won gone) ≢ [] → (P : Type 0) → (lost ≢ [] → P) → (gone ≢ [] → P) → P
gone_either [] [] won some P first second = absurd (some refl)
gone_either [] (n ∷ gone) won some P first second = second (λ e. cc)
gone_either (m ∷ lost) gone won some P first second = first (λ e. cc)

pub record IsFurther (contents : List (List Row)) (current : List ℕ) (lists : TallyPending) (gone added : List ℕ) (removed brought : List Row) : Type 0 where
  pub change : (row : Row) → copies_in contents row added + copies_of row removed ≡ copies_in contents row gone + copies_of row brought
  pub gone_up : IsAscending gone
  pub added_up : IsAscending added
  pub seen : Within gone (changed current lists.gone lists.added)
  pub new : Outside added current
  pub fresh : Outside added lists.added
  pub removes : gone ≢ [] → removed ≢ []

pub further_balanced : (contents : List (List Row)) (current : List ℕ) (lists : TallyPending) (pending : PlainPending) (gone added : List ℕ) (removed brought : List Row) (table : ℕ) → AreSoundLists lists
    → IsBalanced contents current lists pending → IsFurther contents current lists gone added removed brought
    → IsBalanced contents current (changed_lists lists gone added) (record { table = table; gone = bag_plus pending.gone removed; added = bag_plus pending.added brought })
further_balanced contents current lists pending gone added removed brought table up balanced further = record {
  balance = λ row. omega (
    arith,
    copies-lists contents row current lists.gone lists.added gone added up.0 up.1 further.gone_up further.added_up further.seen balanced.outside balanced.inside further.fresh,
    balanced.balance row,
    further.change row,
    copies_of-bag_plus row pending.gone removed,
    copies_of-bag_plus row pending.added brought,
  );
  inside = λ k e. elim (within_joined lists.gone (without lists.added gone) k e) [
    | inl h ↦ balanced.inside k h
    | inr h ↦
        let both = within_without lists.added gone k h in
        elim (within_changed current lists.gone lists.added k (further.seen k both.0)) [ inl g ↦ g.0 | inr g ↦ absurd (not_both (has lists.added k) g both.1) ]
  ];
  outside = λ k e. elim (within_joined (without gone lists.added) added k e) [
    | inl h ↦ balanced.outside k (within_without gone lists.added k h).0
    | inr h ↦ further.new k h
  ];
  removes = λ some. gone_either lists.gone gone lists.added some (bag_plus pending.gone removed ≢ []) (λ first. not_none_first pending.gone removed (balanced.removes first))
      (λ second. not_none_second pending.gone removed (further.removes second));
}
