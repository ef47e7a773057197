-- The start of a query or a change keeps the bags: what it pins holds what it has seen.
use Rattle.std.specs.List.{AllZip, cons_option}
use Rattle.std.specs.Prelude.{Bool, List, None, Option, Result, Some, [], false, filter_map, if◌then◌else◌, int_lt, length, map, nat_abs, negsuc, option_and_then, option_map, option_to_list, pos, refl, slice_get, true, ℕ, ℤ, ◌++◌, ◌-◌, ◌∷◌, ◌≡◌, ◌≤◌}
use Rattle.std.proofs.Common.{ap, arith, inl, inr, length-append, subst, suc, sym, zero, ◌∙◌}
use Rattle.std.proofs.lemmas.Bool.{false≢true, ltb-false}
use Rattle.std.proofs.lemmas.Option.{none-some, same_Some}
use Rattle.tt_history.specs.declared.history.Told.{Told}
use Rattle.tt_plain.proofs.Answers.{bind_some}
use Rattle.tt_plain.proofs.law.Gives.{Gives, gives_map}
use Rattle.tt_plain.proofs.law.Lists.{every-filter_map, every-map, every_on}
use Rattle.tt_plain.proofs.law.Turns.{due_gives}
use Rattle.tt_plain.proofs.law.session.Alone.{IsDue, IsSaid}
use Rattle.tt_plain.proofs.law.session.Views.{GoodPin, IsTable, change_pinned, named, sources_pinned}
use Rattle.tt_plain.specs.Answers.{◌>>=◌}
use Rattle.tt_plain.specs.asked.Asked.{Asked, own_point, request_asked, state_asked, table_asked}
use Rattle.tt_plain.specs.asked.Carried.{Carried}
use Rattle.tt_plain.specs.asked.Request.{Reads, Request, Writes, request_of}
use Rattle.tt_plain.specs.asked.Turns.{statement_read}
use Rattle.tt_plain.specs.declared.store.PlainOpen.{PlainOpen}
use Rattle.tt_plain.specs.declared.store.PlainSession.{PlainSession}
use Rattle.tt_plain.specs.declared.store.PlainTable.{PlainTable}
use Rattle.tt_plain.specs.declared.tally.TallyPin.{TallyPin}
use Rattle.tt_plain.specs.effect.Effect.{Effect}
use Rattle.tt_plain.specs.effect.Ending.{memory_effect}
use Rattle.tt_plain.specs.effect.Start.{begun, begun_by, start_effect}
use Rattle.tt_plain.specs.law.Bag.{Form, PinForms, pins_of, seen_in_pins}
use Rattle.tt_plain.specs.law.Lists.{Every}
use Rattle.tt_plain.specs.opening.Marks.{marks_exclusively, with_mark}
use Rattle.tt_plain.specs.opening.Opened.{change_opened, opened, query_opened, sources_seen, target_of, target_rows}
use Rattle.tt_plain.specs.opening.Point.{At, NoStatement, NotEnded, Point, change_sources, inserted_sources, point_of, query_sources, sources_in, travel_of, travels_asked}
use Rattle.tt_plain.specs.opening.Seen.{rows_at_point, rows_by_clause, rows_seen, visible_rows}
use Rattle.tt_plain.specs.refusal.{first_some, head_of}
use Rattle.tt_plain.specs.refusal.First.{refusal_of, refusals}
use Rattle.tt_plain.specs.refusal.NotYetMade.{made_later, not_yet_made}
use Rattle.tt_plain.specs.stored.Points.{no_point_yet}
use Rattle.tt_plain.specs.stored.Tables.{rows_at}
use Rattle.tt_plain.specs.tally.Changes.{Pins, changed_tally}
use Rattle.tt_plain.specs.tally.Layouts.{current_parts, parts_at, parts_at_point, parts_by_clause, parts_seen, source_parts}
use Rattle.tt_plain.specs.tally.Pins.{change_pins, pin_of, source_pins, target_pin}
use Rattle.tt_sql.specs.declared.change.Dml.{Dml}
use Rattle.tt_sql.specs.declared.query.Clause.{Clause}
use Rattle.tt_sql.specs.declared.query.Query.{Query}
use Rattle.tt_sql.specs.declared.query.Source.{Source}
use Rattle.tt_sql.specs.declared.statement.Statement.{Statement}
use Rattle.tt_value.specs.declared.name.TableName.{TableName}
use Rattle.tt_value.specs.declared.value.Row.{Row}
use Rattle.tt_plain_laws.proofs.parts.Backed.{AreBacked, seen_is, visible_hold}
use Rattle.tt_plain_laws.proofs.parts.Balance.{lists_now}
use Rattle.tt_plain_laws.proofs.parts.Contents.{Known, known_more}
use Rattle.tt_plain_laws.proofs.parts.Known.{KnownPin, known_at, known_current, known_lists}
use Rattle.tt_plain_laws.proofs.parts.Numbers.{within_changed}
use Rattle.tt_plain_laws.proofs.parts.Quiet.{same_quiet}
use Rattle.tt_plain_laws.proofs.entry.Sessions.{Backs, memory_backs, quiet_backs, told_backs}
use Rattle.tt_plain_laws.proofs.parts.Step.{zip_more}
use Rattle.tt_plain_laws.proofs.parts.Views.{pins_other, pins_own}
use Rattle.tt_plain_laws.specs.Guarded.{AreGuarded}
use Rattle.tt_plain.specs.asked.Event as event
use Rattle.tt_sql.specs.declared.change.Dml.TheVariants as dml
use Rattle.tt_history.specs.declared.reply.Refusal.TheVariants as refusal

-- ---- points are not before the making of their tables

pub nothing_first : {A : Type 0} (items : List (Option A)) (place : ℕ) (item : Option A) → first_some items ≡ None → slice_get items place ≡ Some item → item ≡ None
nothing_first [] place item none at = absurd (none-some item at)
nothing_first (None ∷ items) zero item none at = sym (same_Some None item at)
nothing_first (None ∷ items) (suc place) item none at = nothing_first items place item none at
nothing_first (Some x ∷ items) place item none at = absurd (none-some x (sym none))

pub no_head : {A B : Type 0} (f : A → B) (xs : List A) → option_map f (head_of xs) ≡ None → xs ≡ []
no_head f [] e = refl
no_head f (x ∷ xs) e = absurd (none-some (f x) (sym e))

none_later : {A B C : Type 0} (travel : A → Option B) (later : B → Option C) (xs : List A) → filter_map later (filter_map travel xs) ≡ [] → Every (λ x. (t : B) → travel x ≡ Some t → later t ≡ None) xs
none_later travel later [] e = tt
none_later travel later (x ∷ xs) e = by (travel x) refl (λ f. none_later travel later xs f) e
  where
    by : (o : Option _) → travel x ≡ o → (filter_map later (filter_map travel xs) ≡ [] → Every (λ y. (t : _) → travel y ≡ Some t → later t ≡ None) xs) → filter_map later (cons_option o (filter_map travel xs)) ≡ []
        → Every (λ y. (t : _) → travel y ≡ Some t → later t ≡ None) (x ∷ xs)
    by None is rest f = ((λ t g. absurd (none-some t (sym is ∙ g))), rest f)
    by (Some b) is rest f = inner (later b) refl f
      where
        inner : (o : Option _) → later b ≡ o → cons_option o (filter_map later (filter_map travel xs)) ≡ [] → Every (λ y. (t : _) → travel y ≡ Some t → later t ≡ None) (x ∷ xs)
        inner None g h = ((λ t k. ap later (sym (same_Some b t (sym is ∙ k))) ∙ g), rest h)
        inner (Some c) g h = absurd cc

made_right : (x : ℤ) (made : ℕ) → int_lt x (pos made) ≡ false → made ≤ nat_abs x
made_right (pos n) made e = omega (arith, ltb-false n made e)
made_right (negsuc n) made e = absurd (false≢true (sym e))

module _ (carried : Carried) (asked : Asked) (due : IsDue carried asked) (said : IsSaid carried asked) (contents : List (List Row)) (backed : AreBacked carried asked.program contents asked.store) (guarded : AreGuarded asked.store) where
  abbrev BacksAll : Effect → Type 0
  BacksAll effect = Backs carried asked due contents backed effect

  -- what is so of a source whose point is not refused
  abbrev pub IsMade : Source → Type 0
  IsMade s = (t : PlainTable × ℤ) → travel_of asked s ≡ Some t → made_later t ≡ None

  pub all_made : refusal_of asked ≡ None → Every IsMade (sources_in (request_asked asked))
  unfolding refusal_of
  all_made free =
      none_later (travel_of asked) made_later (sources_in (request_asked asked))
      (no_head refusal.NotYetMade (filter_map made_later (travels_asked asked)) (nothing_first (refusals asked) 13 (not_yet_made asked) free refl))

  not_later : (table : PlainTable) (x : ℤ) → made_later (table, x) ≡ None → table.made ≤ nat_abs x
  not_later table x e = by (int_lt x (pos table.made)) refl e
    where
      by : (b : Bool) → int_lt x (pos table.made) ≡ b → (if b then Some table.made else None) ≡ None → table.made ≤ nat_abs x
      by true f g = absurd (none-some table.made (sym g))
      by false f g = made_right x table.made f

  point_forms : (table : PlainTable) (point : Point) (rows : List Row) → IsTable asked.store table → ((x : ℤ) → point ≡ At x → table.made ≤ nat_abs x) → rows_at_point table point ≡ Some rows
      → Form contents (parts_at_point asked.store.tally table.number point) rows
  point_forms table (At x) rows is made e =
      subst (Form contents (parts_at asked.store.tally table.number (nat_abs x))) (same_Some (rows_at table (nat_abs x)) rows e) (backed.layouts (table.number - 1) table is.there (nat_abs x) (made x refl))
  point_forms table NoStatement rows is made e = absurd (none-some rows e)
  point_forms table NotEnded rows is made e = absurd (none-some rows e)

  moment_of : (table : PlainTable) (s : Source) (clause : Clause) (x : ℤ) → table_asked asked s.table ≡ Some table → s.clause ≡ Some clause → point_of asked clause ≡ At x → travel_of asked s ≡ Some (table, x)
  moment_of table s clause x there c p = rw (there, c, p) refl

  clause_forms : (table : PlainTable) (s : Source) (rows : List Row) → table_asked asked s.table ≡ Some table → IsTable asked.store table → IsMade s → (clause : Option Clause) → s.clause ≡ clause
      → rows_by_clause asked table clause ≡ Some rows → Form contents (parts_by_clause asked table.number clause) rows
  clause_forms table s rows there is made None c e =
      subst (Form contents (parts_seen asked.store.tally asked.session table.number)) (same_Some (visible_rows (state_asked asked) table) rows e)
      (visible_hold carried asked.program contents asked.store due.sound backed guarded asked.session (table.number - 1) (state_asked asked) table due.at is.there)
  clause_forms table s rows there is made (Some clause) c e =
      point_forms table (point_of asked clause) rows is (λ x p. not_later table x (made (table, x) (moment_of table s clause x there c p))) e

  pub source_forms : (s : Source) (seen : ℕ × List Row) → IsMade s → rows_seen asked s ≡ Some seen → (parts : ℕ × List ℕ) × (source_parts asked s ≡ Some parts) × (parts.0 ≡ seen.0) × Form contents parts.1 seen.1
  unfolding rows_seen
  source_forms s seen made e =
      let found = bind_some (table_asked asked s.table) _ seen e in
      let rows = bind_some (rows_by_clause asked found.0 s.clause) _ seen found.2 in
      let is : (found.0.number, rows.0) ≡ seen = same_Some (found.0.number, rows.0) seen rows.2 in (
        (found.0.number, parts_by_clause asked found.0.number s.clause),
        ap (option_map (λ (table : PlainTable). (table.number, parts_by_clause asked table.number s.clause))) found.1,
        ap (λ (p : ℕ × List Row). p.0) is,
        subst (Form contents (parts_by_clause asked found.0.number s.clause)) (ap (λ (p : ℕ × List Row). p.1) is)
            (clause_forms found.0 s rows.0 found.1 (named carried asked due s.table found.0 found.1).is made s.clause refl rows.1),
      )

  sources_form : (sources : List Source) (seen : List (ℕ × List Row)) → Every IsMade sources → sources_seen asked sources ≡ Some seen → AllZip (PinForms contents) seen (source_pins asked sources)
  sources_form [] seen made e = subst (λ (s : List (ℕ × List Row)). AllZip (PinForms contents) s []) (same_Some [] seen e) tt
  sources_form (s ∷ sources) seen made e = by (λ others f. sources_form sources others made.1 f) (rows_seen asked s) refl (sources_seen asked sources) refl e
    where
      by : ((others : List (ℕ × List Row)) → sources_seen asked sources ≡ Some others → AllZip (PinForms contents) others (source_pins asked sources))
          → (first : Option (ℕ × List Row)) → rows_seen asked s ≡ first → (rest : Option (List (ℕ × List Row))) → sources_seen asked sources ≡ rest
          → option_and_then (λ first. option_map (λ others. first ∷ others) rest) first ≡ Some seen → AllZip (PinForms contents) seen (source_pins asked (s ∷ sources))
      by behind None f rest g h = absurd (none-some seen h)
      by behind (Some x) f None g h = absurd (none-some seen h)
      by behind (Some x) f (Some xs) g h =
          let here = source_forms s x made.0 f in
          subst (λ (all : List (ℕ × List Row)). AllZip (PinForms contents) all (source_pins asked (s ∷ sources))) (same_Some (x ∷ xs) seen h)
          (subst (λ (o : Option (ℕ × List ℕ)). AllZip (PinForms contents) (x ∷ xs) (map (pin_of asked.session) (cons_option o (filter_map (source_parts asked) sources)))) (sym here.1)
          ((here.2, here.3), behind xs g))

  -- ---- numbers that are pinned

  pub seen_known : (table : ℕ) → Known (length contents) (parts_seen asked.store.tally asked.session table)
  seen_known table =
      subst (Known (length contents)) (sym (seen_is asked.store.tally asked.session table)) (λ k e.
      elim (within_changed (current_parts asked.store.tally table) (lists_now asked.store.tally asked.session table).gone (lists_now asked.store.tally asked.session table).added k e) [
        | inl h ↦ known_current (length contents) asked.store.tally table backed.known k h.0
        | inr h ↦ (known_lists (length contents) asked.store.tally asked.session table backed.known).1 k h
      ])

  point_known : (table : ℕ) (point : Point) → Known (length contents) (parts_at_point asked.store.tally table point)
  point_known table (At x) = known_at (length contents) asked.store.tally table (nat_abs x) backed.known
  point_known table NoStatement = λ k e. absurd (false≢true e)
  point_known table NotEnded = λ k e. absurd (false≢true e)

  clause_known : (table : ℕ) (clause : Option Clause) → Known (length contents) (parts_by_clause asked table clause)
  clause_known table None = seen_known table
  clause_known table (Some clause) = point_known table (point_of asked clause)

  pub parts_known : (s : Source) → Gives (λ (seen : ℕ × List ℕ). Known (length contents) seen.1) (source_parts asked s)
  parts_known s = gives_map (λ (seen : ℕ × List ℕ). Known (length contents) seen.1) _ (table_asked asked s.table) (λ table e. clause_known table.number s.clause)

  abbrev KnownSeen : ℕ × List ℕ → Type 0
  KnownSeen seen = Known (length (contents ++ [])) seen.1

  no_more : length contents ≤ length (contents ++ [])
  no_more = omega (arith, length-append contents [])

  source_known : (s : Source) → Gives KnownSeen (source_parts asked s)
  source_known s = gives_map KnownSeen _ (table_asked asked s.table) (λ table e. known_more (length contents) (length (contents ++ [])) (parts_by_clause asked table.number s.clause) no_more (clause_known table.number s.clause))

  sources_known : (sources : List Source) → Every (KnownPin (length (contents ++ []))) (source_pins asked sources)
  sources_known sources =
      every-map (KnownPin (length (contents ++ []))) (pin_of asked.session) (filter_map (source_parts asked) sources) (every-filter_map KnownSeen (source_parts asked) sources source_known)

  target_known : (name : TableName) → Every (KnownPin (length (contents ++ []))) (target_pin asked name)
  target_known name = one (source_parts asked (record { table = name; clause = None })) (source_known (record { table = name; clause = None }))
    where
      one : (seen : Option (ℕ × List ℕ)) → Gives KnownSeen seen → Every (KnownPin (length (contents ++ []))) (option_to_list (option_map (pin_of asked.session) seen))
      one None known = tt
      one (Some seen) known = (known, tt)

  change_known : (d : Dml) → Every (KnownPin (length (contents ++ []))) (change_pins asked d)
  change_known (dml.Insert i) = sources_known (inserted_sources i.source)
  change_known (dml.Update u) = target_known u.table
  change_known (dml.Delete d) = target_known d.table
  change_known (dml.Copy c) = tt

  -- ---- what begins

  fewer : (pins : List TallyPin) → Every (KnownPin (length (contents ++ []))) pins → Every (KnownPin (length contents)) pins
  fewer pins known =
      every_on (KnownPin (length (contents ++ []))) (KnownPin (length contents)) pins (λ pin h. known_more (length (contents ++ [])) (length contents) pin.parts (omega (arith, length-append contents [])) h) known

  own_sessions : (pins : List TallyPin) → Every (GoodPin carried asked due) pins → Every (λ (pin : TallyPin). pin.session ≡ asked.session) pins
  own_sessions pins good = every_on (GoodPin carried asked due) (λ (pin : TallyPin). pin.session ≡ asked.session) pins (λ pin h. h.0) good

  begun_backs : (new : PlainSession) (seen : PlainOpen) (pins : List TallyPin) → new.running ≡ Some seen → seen.index ≡ asked.index → new.pending ≡ (state_asked asked).pending → Every (GoodPin carried asked due) pins
      → Every (KnownPin (length (contents ++ []))) pins → AllZip (PinForms contents) (seen_in_pins (request_asked asked) seen) pins → BacksAll (begun asked new pins)
  begun_backs new seen pins running counted same good known forms =
      quiet_backs carried asked due contents backed new [] ((own_point asked, no_point_yet) ∷ []) (Pins asked.session pins ∷ []) asked.moment None tt
      (same_quiet asked.store.tally (changed_tally asked.store.tally (Pins asked.session pins)) refl refl refl) (known, tt) same
      (λ other read open_now read_is.
      let is : seen ≡ other = same_Some seen other (sym running ∙ open_now) in
      let at : other.index ≡ asked.index = ap (λ (s : PlainOpen). s.index) (sym is) ∙ counted in
      let read_same : asked.read ≡ read = same_Some asked.read read (sym said.said ∙ ap (statement_read carried asked.program asked.session) (sym at) ∙ read_is) in
      subst (λ (r : Result Statement ℕ). AllZip (PinForms (contents ++ [])) (seen_in_pins (request_of r) other) (pins_of (changed_tally asked.store.tally (Pins asked.session pins)) asked.session)) read_same
      (subst (λ (s : PlainOpen). AllZip (PinForms (contents ++ [])) (seen_in_pins (request_asked asked) s) (pins_of (changed_tally asked.store.tally (Pins asked.session pins)) asked.session)) is
      (subst (AllZip (PinForms (contents ++ [])) (seen_in_pins (request_asked asked) seen)) (sym (pins_own asked.session pins asked.store.tally.pins (own_sessions pins good)))
      (zip_more contents [] (seen_in_pins (request_asked asked) seen) pins (fewer pins known) forms))))
      (λ other apart. pins_other asked.session pins asked.store.tally.pins (own_sessions pins good) other apart) refl

  query_begun : (q : Query) → request_asked asked ≡ Reads q → refusal_of asked ≡ None → Gives BacksAll (option_map (λ new. begun asked new (source_pins asked (query_sources q))) (query_opened asked q))
  unfolding query_opened
  query_begun q reads free = seen (sources_seen asked (query_sources q)) refl
    where
      seen : (sources : Option (List (ℕ × List Row))) → sources_seen asked (query_sources q) ≡ sources
          → Gives BacksAll (option_map (λ new. begun asked new (source_pins asked (query_sources q))) (sources >>= λ sources. Some (record (state_asked asked) { running = Some (opened asked sources None) })))
      seen None e = tt
      seen (Some sources) e =
          begun_backs (record (state_asked asked) { running = Some (opened asked sources None) }) (opened asked sources None) (source_pins asked (query_sources q)) refl refl refl (sources_pinned carried asked due (query_sources q)) (sources_known (query_sources q))
          (subst (λ (r : Request). AllZip (PinForms contents) (seen_in_pins r (opened asked sources None)) (source_pins asked (query_sources q))) (sym reads)
          (sources_form (query_sources q) sources (subst (λ (r : Request). Every IsMade (sources_in r)) reads (all_made free)) e))

  abbrev changing : PlainTable → Dml → List (ℕ × List Row) → PlainSession
  changing table d sources = record (state_asked asked) {
    running = Some (opened asked sources (Some (table.number, target_rows (state_asked asked) table d)));
    marks = with_mark table.number (marks_exclusively d) (state_asked asked).marks;
  }

  target_forms : (table : PlainTable) (name : TableName) → table_asked asked name ≡ Some table → AllZip (PinForms contents) ((table.number, visible_rows (state_asked asked) table) ∷ []) (target_pin asked name)
  target_forms table name there =
      subst (λ (o : Option PlainTable). AllZip (PinForms contents) ((table.number, visible_rows (state_asked asked) table) ∷ [])
      (option_to_list (option_map (pin_of asked.session) (option_map (λ (t : PlainTable). (t.number, parts_seen asked.store.tally asked.session t.number)) o)))) (sym there)
      ((refl, visible_hold carried asked.program contents asked.store due.sound backed guarded asked.session (table.number - 1) (state_asked asked) table due.at (named carried asked due name table there).is.there), tt)

  change_forms : (d : Dml) (table : PlainTable) (sources : List (ℕ × List Row)) → Every IsMade (change_sources d) → table_asked asked (target_of d) ≡ Some table → sources_seen asked (change_sources d) ≡ Some sources
      → AllZip (PinForms contents) (seen_in_pins (Writes d) (opened asked sources (Some (table.number, target_rows (state_asked asked) table d)))) (change_pins asked d)
  change_forms (dml.Insert i) table sources made there e = sources_form (inserted_sources i.source) sources made e
  change_forms (dml.Update u) table sources made there e = target_forms table u.table there
  change_forms (dml.Delete d) table sources made there e = target_forms table d.table there
  change_forms (dml.Copy c) table sources made there e = subst (λ (s : List (ℕ × List Row)). AllZip (PinForms contents) s []) (same_Some [] sources e) tt

  change_begun : (d : Dml) → request_asked asked ≡ Writes d → refusal_of asked ≡ None → Gives BacksAll (option_map (λ new. begun asked new (change_pins asked d)) (change_opened asked d))
  unfolding change_opened
  change_begun d writes free = found (table_asked asked (target_of d)) refl
    where
      seen : (table : PlainTable) → table_asked asked (target_of d) ≡ Some table → (sources : Option (List (ℕ × List Row))) → sources_seen asked (change_sources d) ≡ sources
          → Gives BacksAll (option_map (λ new. begun asked new (change_pins asked d)) (sources >>= λ sources. Some (changing table d sources)))
      seen table there None e = tt
      seen table there (Some sources) e =
          begun_backs (changing table d sources) (opened asked sources (Some (table.number, target_rows (state_asked asked) table d))) (change_pins asked d) refl refl refl (change_pinned carried asked due d) (change_known d)
          (subst (λ (r : Request). AllZip (PinForms contents) (seen_in_pins r (opened asked sources (Some (table.number, target_rows (state_asked asked) table d)))) (change_pins asked d)) (sym writes)
          (change_forms d table sources (subst (λ (r : Request). Every IsMade (sources_in r)) writes (all_made free)) there e))

      found : (table : Option PlainTable) → table_asked asked (target_of d) ≡ table
          → Gives BacksAll (option_map (λ new. begun asked new (change_pins asked d)) (table >>= λ table. sources_seen asked (change_sources d) >>= λ sources. Some (changing table d sources)))
      found None there = tt
      found (Some table) there = seen table there (sources_seen asked (change_sources d)) refl

  request_begun : (request : Request) → request_asked asked ≡ request → refusal_of asked ≡ None → Gives BacksAll (begun_by asked request)
  request_begun (Reads q) e free = query_begun q e free
  request_begun (Writes d) e free = change_begun d e free
  request_begun _ e free = tt

  pub start_backs : (t : Told) → Gives BacksAll (start_effect asked t)
  unfolding start_effect
  start_backs t =
      due_gives BacksAll event.Start asked _ (λ test.
      told_backs carried asked due contents backed (begun_by asked (request_asked asked)) (memory_effect asked) t (λ free. request_begun (request_asked asked) refl free) (memory_backs carried asked due contents backed))
