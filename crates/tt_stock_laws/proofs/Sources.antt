-- The parts that a statement sees are stored: those of current layouts, those that its transaction added, and those of a past moment that
-- is not beyond the horizon.
use Rattle.std.specs.List.{cons_option}
use Rattle.std.specs.Prelude.{Bool, List, None, Option, Some, [], false, filter, filter_map, int_lt, length, nat_abs, nat_le, not, option_map, option_to_list, pos, refl, slice_get, true, unwrap_or, ℕ, ℤ, ◌&&◌, ◌-◌, ◌<◌, ◌∷◌, ◌≡◌, ◌≤ℤ◌}
use Rattle.std.proofs.Common.{ap, arith, cond, inl, inr, subst, sym, ◌∙◌}
use Rattle.std.proofs.Math.Bool.{or-true}
use Rattle.std.proofs.lemmas.Bool.{and_parts, false≢true, leb-false, leb-true, or_cases}
use Rattle.std.proofs.lemmas.Int.{ints}
use Rattle.std.proofs.lemmas.Option.{none-some}
use Rattle.tt_history.specs.declared.reply.Refusal.TheVariants as refusal
use Rattle.tt_history.specs.declared.reply.Refusal.{Refusal}
use Rattle.tt_layout.proofs.Members.{has-changed}
use Rattle.tt_layout.specs.Chain as chain
use Rattle.tt_layout.specs.Numbers.{changed, has}
use Rattle.tt_plain.proofs.law.Gives.{Gives, gives_at, gives_map}
use Rattle.tt_plain.proofs.law.Lists.{every-map, every_at, every_on}
use Rattle.tt_plain.proofs.law.session.Alone.{IsDue}
use Rattle.tt_plain.proofs.law.session.Views.{IsTable, every_found, named}
use Rattle.tt_plain.specs.Answers.{◌>>=◌}
use Rattle.tt_plain.specs.asked.Asked.{Asked, request_asked, table_asked}
use Rattle.tt_plain.specs.asked.Carried.{Carried}
use Rattle.tt_plain.specs.declared.store.PlainTable.{PlainTable}
use Rattle.tt_plain.specs.declared.tally.Tally.{Tally}
use Rattle.tt_plain.specs.declared.tally.TallyPending.{TallyPending}
use Rattle.tt_plain.specs.declared.tally.TallyPin.{TallyPin}
use Rattle.tt_plain.specs.law.Lists.{Every}
use Rattle.tt_plain.specs.law.Sound.{AreSoundLayouts}
use Rattle.tt_plain.specs.law.Stocked.{AreStored}
use Rattle.tt_plain.specs.opening.Point.{At, NoStatement, NotEnded, Point, change_sources, inserted_sources, moment_at, point_of, sources_in, travel_of, travels_asked}
use Rattle.tt_plain.specs.refusal.First.{refusal_of, refusals}
use Rattle.tt_plain.specs.refusal.NotYetMade.{made_later, not_yet_made}
use Rattle.tt_plain.specs.refusal.OutsideRetention.{horizon_beyond, outside_retention}
use Rattle.tt_plain.specs.refusal.{first_some, head_of}
use Rattle.tt_plain.specs.tally.Layouts.{changed_parts, current_parts, is_pending_of, lists_of, parts_at, parts_at_point, parts_by_clause, parts_seen, source_parts}
use Rattle.tt_plain.specs.tally.Parts.{is_stored}
use Rattle.tt_plain.specs.tally.Pins.{change_pins, pin_of, source_pins, target_pin}
use Rattle.tt_retain.specs.Horizon.{horizon_of}
use Rattle.tt_retain.specs.Retention.{Retention}
use Rattle.tt_sql.specs.declared.change.Dml.TheVariants as dml
use Rattle.tt_sql.specs.declared.change.Dml.{Dml}
use Rattle.tt_sql.specs.declared.query.Clause.{Clause}
use Rattle.tt_sql.specs.declared.query.Source.{Source}
use Rattle.tt_stock_laws.proofs.Stock.{Stock, layouts_in, stock_later, stored_from, stored_has}
use Rattle.tt_stock_laws.proofs.Supplied.{Stocks}
use Rattle.tt_stock_laws.proofs.Used.{current_used, lives, uses}
use Rattle.tt_value.specs.declared.name.TableName.{TableName}

-- ---- the layout at a moment

lt_above : (h : ℤ) (m n : ℕ) → h ≤ℤ pos m → m < n → int_lt h (pos n) ≡ true
lt_above h m n le lt = grind (arith, ints)

abbrev begun_by : ℕ → ℕ × List ℕ → Bool
begun_by m layout = nat_le layout.0 m

none_later : (m : ℕ) (begun : ℕ) (layouts : List (ℕ × List ℕ)) → m < begun → chain.FollowFrom begun layouts → filter (begun_by m) layouts ≡ []
none_later m begun [] later follow = refl
none_later m begun (l ∷ layouts) later follow = by (begun_by m l) refl (none_later m l.0 layouts (omega (arith, later, follow.0)) follow.2)
  where
    by : (b : Bool) → begun_by m l ≡ b → filter (begun_by m) layouts ≡ [] → cond b (l ∷ filter (begun_by m) layouts) (filter (begun_by m) layouts) ≡ []
    by true e rest = absurd (omega (arith, leb-true l.0 m e, later, follow.0))
    by false e rest = rest

module _ (moment m : ℕ) (regimes : Retention) (part : ℕ) (kept : horizon_of regimes (pos moment) ≤ℤ pos m) where
  last_part : (b : Bool) (l : ℕ × List ℕ) → has (unwrap_or (option_map (λ (l : ℕ × List ℕ). l.1) (chain.last_of (cond b (l ∷ []) []))) []) part ≡ true → has l.1 part ≡ true
  last_part true l e = e
  last_part false l e = absurd (false≢true e)

  pub at_used : (begun : ℕ) (layouts : List (ℕ × List ℕ)) → chain.FollowFrom begun layouts → has (unwrap_or (chain.layout_at layouts m) []) part ≡ true → uses moment regimes None layouts part ≡ true
  at_used begun [] follow e = absurd (false≢true e)
  at_used begun (l ∷ []) follow e = rw (last_part (begun_by m l) l e) refl
  at_used begun (l ∷ n ∷ layouts) follow e = by (λ rest. at_used l.0 (n ∷ layouts) follow.2 rest) (begun_by m n) refl e
    where
      now : Bool → List (ℕ × List ℕ)
      now b = cond b (n ∷ filter (begun_by m) layouts) (filter (begun_by m) layouts)

      passed : (c : Bool) → has (unwrap_or (option_map (λ (l : ℕ × List ℕ). l.1) (chain.last_of (cond c (l ∷ n ∷ filter (begun_by m) layouts) (n ∷ filter (begun_by m) layouts)))) []) part ≡ true
          → has (unwrap_or (option_map (λ (l : ℕ × List ℕ). l.1) (chain.last_of (n ∷ filter (begun_by m) layouts))) []) part ≡ true
      passed true e = e
      passed false e = e

      by : (has (unwrap_or (chain.layout_at (n ∷ layouts) m) []) part ≡ true → uses moment regimes None (n ∷ layouts) part ≡ true) → (b : Bool) → begun_by m n ≡ b → has (unwrap_or (option_map (λ (l : ℕ × List ℕ). l.1) (chain.last_of (cond (begun_by m l) (l ∷ now b) (now b)))) []) part ≡ true
          → uses moment regimes None (l ∷ n ∷ layouts) part ≡ true
      by later_on true f e =
          let rest : has (unwrap_or (chain.layout_at (n ∷ layouts) m) []) part ≡ true = rw f (passed (begun_by m l) e) in
          rw (later_on rest) (or-true (has l.1 part && lives moment regimes (Some n.0)))
      by later_on false f e =
          let later : m < n.0 = leb-false n.0 m f in
          let none : filter (begun_by m) layouts ≡ [] = none_later m n.0 layouts later follow.2.2 in
          let here : has l.1 part ≡ true =
          last_part (begun_by m l) l (subst (λ (xs : List (ℕ × List ℕ)). has (unwrap_or (option_map (λ (l : ℕ × List ℕ). l.1) (chain.last_of (cond (begun_by m l) (l ∷ xs) xs))) []) part ≡ true) none e) in
          rw (here, lt_above (horizon_of regimes (pos moment)) m n.0 kept later) refl

-- ---- lists that lack nothing

pub none_all : (given : List (Option Refusal)) → first_some given ≡ None → Every (λ (o : Option Refusal). o ≡ None) given
none_all [] e = tt
none_all (None ∷ given) e = (refl, none_all given e)
none_all (Some x ∷ given) e = absurd (none-some x (sym e))

pub free_of : (asked : Asked) → refusal_of asked ≡ None → Every (λ (o : Option Refusal). o ≡ None) (refusals asked)
unfolding refusal_of
free_of asked e = none_all (refusals asked) e

nothing_first : {A : Type 0} (first : Option A) (xs : List A) → cons_option first xs ≡ [] → (first ≡ None) × (xs ≡ [])
nothing_first None xs e = (refl, e)
nothing_first (Some x) xs e = absurd (cc)

nothing_found : {A B : Type 0} (f : A → Option B) (xs : List A) → filter_map f xs ≡ [] → Every (λ x. f x ≡ None) xs
nothing_found f [] e = tt
nothing_found f (x ∷ xs) e = let both = nothing_first (f x) (filter_map f xs) e in (both.0, nothing_found f xs both.1)

gives_of : {B : Type 0} (P : B → Type 0) (Q : Type 0) (o : Option B) (xs : List B) → (Every P xs → Q) → Every P (cons_option o xs) → Gives P o × Q
gives_of P Q None xs on all = (tt, on all)
gives_of P Q (Some y) xs on all = (all.0, on all.1)

each_gives : {A B : Type 0} (P : B → Type 0) (g : A → Option B) (xs : List A) → Every P (filter_map g xs) → Every (λ x. Gives P (g x)) xs
each_gives P g [] all = tt
each_gives P g (x ∷ xs) all = gives_of P (Every (λ x. Gives P (g x)) xs) (g x) (filter_map g xs) (each_gives P g xs) all

every_cons : {B : Type 0} (P : B → Type 0) (o : Option B) (xs : List B) → Gives P o → Every P xs → Every P (cons_option o xs)
every_cons P None xs here all = all
every_cons P (Some y) xs here all = (here, all)

pub each_found : {A B : Type 0} (P : B → Type 0) (g : A → Option B) (xs : List A) → Every (λ x. Gives P (g x)) xs → Every P (filter_map g xs)
each_found P g [] all = tt
each_found P g (x ∷ xs) all = every_cons P (g x) (filter_map g xs) all.0 (each_found P g xs all.1)

no_horizon : (xs : List ℤ) → option_map refusal.OutsideRetention (head_of xs) ≡ None → xs ≡ []
no_horizon [] e = refl
no_horizon (x ∷ xs) e = absurd (none-some (refusal.OutsideRetention x) (sym e))

no_making : (xs : List ℕ) → option_map refusal.NotYetMade (head_of xs) ≡ None → xs ≡ []
no_making [] e = refl
no_making (x ∷ xs) e = absurd (none-some (refusal.NotYetMade x) (sym e))

-- ---- points that are not refused

abbrev pub IsKeptFor : ℕ → PlainTable × ℤ → Type 0
IsKeptFor moment travel = (horizon_beyond moment travel ≡ None) × (made_later travel ≡ None)

abbrev pub IsOpenTo : Asked → Source → Type 0
IsOpenTo asked s = Gives (IsKeptFor asked.moment) (travel_of asked s)

both_every : {A : Type 0} (P Q : A → Type 0) (xs : List A) → Every P xs → Every Q xs → Every (λ x. P x × Q x) xs
both_every P Q [] left right = tt
both_every P Q (x ∷ xs) left right = ((left.0, right.0), both_every P Q xs left.1 right.1)

pub open_sources : (asked : Asked) → refusal_of asked ≡ None → Every (IsOpenTo asked) (sources_in (request_asked asked))
open_sources asked e =
    let free = free_of asked e in
    let outside : outside_retention asked ≡ None = free.1.1.1.1.1.1.1.1.1.1.1.1.1.1.0 in
    let early : not_yet_made asked ≡ None = free.1.1.1.1.1.1.1.1.1.1.1.1.1.0 in
    each_gives (IsKeptFor asked.moment) (travel_of asked) (sources_in (request_asked asked))
    (both_every (λ (t : PlainTable × ℤ). horizon_beyond asked.moment t ≡ None) (λ (t : PlainTable × ℤ). made_later t ≡ None) (travels_asked asked)
    (nothing_found (horizon_beyond asked.moment) (travels_asked asked) (no_horizon (filter_map (horizon_beyond asked.moment) (travels_asked asked)) outside))
    (nothing_found made_later (travels_asked asked) (no_making (filter_map made_later (travels_asked asked)) early)))

not_beyond : (x h : ℤ) (b : Bool) → int_lt x h ≡ b → cond b (Some h) None ≡ None → h ≤ℤ x
not_beyond x h true e f = absurd (none-some h (sym f))
not_beyond x h false e f = grind (arith, ints)

not_early : (x : ℤ) (made : ℕ) (b : Bool) → int_lt x (pos made) ≡ b → cond b (Some made) None ≡ None → pos made ≤ℤ x
not_early x made true e f = absurd (none-some made (sym f))
not_early x made false e f = grind (arith, ints)

natural : (made : ℕ) (x : ℤ) → pos made ≤ℤ x → x ≡ pos (nat_abs x)
natural made (pos n) le = refl
natural made x le = omega (arith, ints)

-- ---- parts that are seen

pub changed_stored : (tally : Tally) (ns gone added : List ℕ) → ((n : ℕ) → has ns n ≡ true → is_stored tally n ≡ true) → ((n : ℕ) → has added n ≡ true → is_stored tally n ≡ true) → AreStored tally (changed ns gone added)
changed_stored tally ns gone added here more =
    stored_from tally (changed ns gone added) (λ n e. elim (or_cases (has ns n && not (has gone n)) (has added n) (sym (has-changed ns gone added n) ∙ e)) [
      | inl h ↦ here n (and_parts (has ns n) (not (has gone n)) h).0
      | inr h ↦ more n h
    ])

module _ (carried : Carried) (asked : Asked) (due : IsDue carried asked) (stocks : Stocks carried asked.program asked.store) where
  abbrev tally : Tally
  tally = asked.store.tally

  pub stock_next : Stock asked.moment asked.store.tables tally
  stock_next = stock_later asked.store.moment asked.moment (length asked.store.tables) asked.store.tables tally (omega (arith, due.next)) due.sound.tables stocks.stock

  pub current_stored : (table : PlainTable) → IsTable asked.store table → table.dropped ≡ None → (n : ℕ) → has (current_parts tally table.number) n ≡ true → is_stored tally n ≡ true
  current_stored table is live n e =
      stocks.stock.used (table.number - 1) table is.there n
      (subst (λ (d : Option ℕ). uses asked.store.moment table.regimes d (layouts_in tally (table.number - 1)) n ≡ true) (sym live)
      (current_used asked.store.moment table.regimes n (layouts_in tally (table.number - 1)) e))

  pub seen_stored : (session : ℕ) (table : PlainTable) → IsTable asked.store table → table.dropped ≡ None → AreStored tally (parts_seen tally session table.number)
  seen_stored session table is live = by (lists_of tally session table.number) refl
    where
      by : (lists : Option TallyPending) → lists_of tally session table.number ≡ lists → AreStored tally (changed_parts (current_parts tally table.number) lists)
      by None e = stored_from tally (current_parts tally table.number) (current_stored table is live)
      by (Some lists) e =
          changed_stored tally (current_parts tally table.number) lists.gone lists.added (current_stored table is live)
          (λ n h. stored_has tally lists.added n (every_found (λ (l : TallyPending). AreStored tally l.added) (is_pending_of session table.number) tally.pending lists stocks.stock.added e) h)

  point_stored : (table : PlainTable) (x : ℤ) → IsTable asked.store table → table.dropped ≡ None → IsKeptFor asked.moment (table, x) → AreStored tally (parts_at tally table.number (nat_abs x))
  point_stored table x is live kept = by (slice_get tally.layouts (table.number - 1)) refl
    where
      horizon : horizon_of table.regimes (pos asked.moment) ≤ℤ x
      horizon = not_beyond x (horizon_of table.regimes (pos asked.moment)) (int_lt x (horizon_of table.regimes (pos asked.moment))) refl kept.0

      at_moment : horizon_of table.regimes (pos asked.moment) ≤ℤ pos (nat_abs x)
      at_moment = subst (λ (y : ℤ). horizon_of table.regimes (pos asked.moment) ≤ℤ y) (natural table.made x (not_early x table.made (int_lt x (pos table.made)) refl kept.1)) horizon

      by : (layouts : Option (List (ℕ × List ℕ))) → slice_get tally.layouts (table.number - 1) ≡ layouts → AreStored tally (unwrap_or (chain.layout_at (unwrap_or layouts []) (nat_abs x)) [])
      by None e = tt
      by (Some layouts) e =
          let sound = every_at (AreSoundLayouts asked.store.moment) tally.layouts (table.number - 1) layouts due.sound.tally.layouts e in
          stored_from tally (unwrap_or (chain.layout_at layouts (nat_abs x)) []) (λ n h.
          stock_next.used (table.number - 1) table is.there n
          (ap (λ (o : Option (List (ℕ × List ℕ))). uses asked.moment table.regimes table.dropped (unwrap_or o []) n) e
          ∙ ap (λ (d : Option ℕ). uses asked.moment table.regimes d layouts n) live
          ∙ at_used asked.moment (nat_abs x) table.regimes n at_moment 0 layouts sound.0.1 h))

  abbrev pub IsSeenStored : ℕ × List ℕ → Type 0
  IsSeenStored seen = AreStored tally seen.1

  pub plain_stored : (name : TableName) → Gives IsSeenStored (source_parts asked (record { table = name; clause = None }))
  plain_stored name = gives_map IsSeenStored _ (table_asked asked name) (λ table e. let is = named carried asked due name table e in seen_stored asked.session table is.is is.live)

  clause_stored : (s : Source) (table : PlainTable) → table_asked asked s.table ≡ Some table → IsOpenTo asked s → (clause : Option Clause) → s.clause ≡ clause → AreStored tally (parts_by_clause asked table.number clause)
  clause_stored s table e open_to None f = let is = named carried asked due s.table table e in seen_stored asked.session table is.is is.live
  clause_stored s table e open_to (Some clause) f = by (point_of asked clause) refl
    where
      travel_is : (x : ℤ) → point_of asked clause ≡ At x → travel_of asked s ≡ Some (table, x)
      travel_is x g =
          ap (λ (o : Option PlainTable). o >>= λ t. s.clause >>= λ c. moment_at (point_of asked c) >>= λ y. Some (t, y)) e
          ∙ ap (λ (o : Option Clause). o >>= λ c. moment_at (point_of asked c) >>= λ y. Some (table, y)) f
          ∙ ap (λ (p : Point). moment_at p >>= λ y. Some (table, y)) g

      by : (p : Point) → point_of asked clause ≡ p → AreStored tally (parts_at_point tally table.number p)
      by (At x) g =
          let is = named carried asked due s.table table e in
          point_stored table x is.is is.live (gives_at (IsKeptFor asked.moment) (travel_of asked s) (table, x) open_to (travel_is x g))
      by NoStatement g = tt
      by NotEnded g = tt

  pub source_stored : (s : Source) → IsOpenTo asked s → Gives IsSeenStored (source_parts asked s)
  source_stored s open_to = gives_map IsSeenStored _ (table_asked asked s.table) (λ table e. clause_stored s table e open_to s.clause refl)

  -- ---- pins

  abbrev pub IsPinStored : TallyPin → Type 0
  IsPinStored pin = AreStored tally pin.parts

  pub sources_pinned : (sources : List Source) → Every (IsOpenTo asked) sources → Every IsPinStored (source_pins asked sources)
  sources_pinned sources open_to =
      every-map IsPinStored (pin_of asked.session) (filter_map (source_parts asked) sources)
      (every_on IsSeenStored (λ (seen : ℕ × List ℕ). IsPinStored (pin_of asked.session seen)) (filter_map (source_parts asked) sources) (λ seen h. h)
      (each_found IsSeenStored (source_parts asked) sources (every_on (IsOpenTo asked) (λ (s : Source). Gives IsSeenStored (source_parts asked s)) sources source_stored open_to)))

  target_pinned : (name : TableName) → Every IsPinStored (target_pin asked name)
  target_pinned name = one (source_parts asked (record { table = name; clause = None })) (plain_stored name)
    where
      one : (seen : Option (ℕ × List ℕ)) → Gives IsSeenStored seen → Every IsPinStored (option_to_list (option_map (pin_of asked.session) seen))
      one None here = tt
      one (Some seen) here = (here, tt)

  pub change_pinned : (d : Dml) → Every (IsOpenTo asked) (change_sources d) → Every IsPinStored (change_pins asked d)
  change_pinned (dml.Insert i) open_to = sources_pinned (inserted_sources i.source) open_to
  change_pinned (dml.Update u) open_to = target_pinned u.table
  change_pinned (dml.Delete d) open_to = target_pinned d.table
  change_pinned (dml.Copy c) open_to = tt
