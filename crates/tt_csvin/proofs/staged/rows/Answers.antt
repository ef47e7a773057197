use Rattle.std.proofs.Common.{◌≡◌, ◌+◌, ◌<◌, ◌^◌, ◌∙◌, ◌++◌, ◌∷◌, [], Bor, List, ℕ, Some, None, map, subst, length, sym, ap, refl, inl, inr, arith}
use Rattle.std.proofs.lemmas.List.{length-append, length-map, map-append}
use Rattle.csv.specs.Reading.{Reached, default_config, strip_bom}
use Rattle.csv.specs.Records.{fields_of}
use Rattle.csv.specs.declared.parser.State.TheVariants as st
use Rattle.csv.proofs.ReadFacts.{rows-end, rows-more}
use Rattle.tt_value.specs.declared.value.Column.{Column}
use Rattle.tt_value.specs.declared.value.Row.{Row}
use Rattle.tt_plain.specs.meaning.StagedRows.{record_fault, row_of_record}
use Rattle.tt_csvin.specs.Staged.{RefusesAs}
use Rattle.tt_csvin.proofs.Cells.{copied_all, one_record_more, record_refused}
use Rattle.tt_csvin.proofs.Lines.{left, so_far, to_the_end}
use Rattle.tt_csvin.proofs.staged.rows.Goals as goal

pub loop-record-init : goal.loop-record-init
unfolding Reached
loop-record-init c =
    let fr = c.from_reader-reader.ensures in
    let h = c.has_headers.ensures in
    let f = c.flexible.ensures in
    let start = c.into_iter-record-iterator.ensures.into_iter_gives ∙ refl in
    let rdr = c.into_records-record-items.ensures.rdr in
    let left = c.into_records-record-items.ensures.left in
    let trim = rw (f, h) at fr.trim in
    let names = rw (f, h) at fr.has_headers in
    let config = rw (f, h) at fr.config in
    rw (start, rdr, c.new-rows.ensures.items) (
      trim ∙ c.new.ensures.trim,
      inr (inr (names, fr.headers)),
      left,
      config ∙ c.new.ensures.config,
      strip_bom c.as_bytes.result.now,
      fr.source,
      [],
      (sym fr.state, ap strip_bom (sym c.as_bytes.ensures.value)),
      refl,
      refl,
    )

-- as many rows as records
as_many : (columns : List Column) (done : List (List (List ℕ))) (rows : List Row) → rows ≡ map (row_of_record columns) done → length rows + 1 ≡ length done + 1
as_many columns done rows is = omega (arith, ap length is, length-map done (row_of_record columns))

pub loop-record-preserved : goal.loop-record-preserved
loop-record-preserved c =
    let inv = c.loop-record.invariant in
    let columns = c.args.schema.now.columns in
    let fields = fields_of c.in-Ok.record in
    let s = rw (c.in-Some.is, c.in-Ok.is) at ((c.next.ensures.steps inv.2 inv.0).0 inv.1) in
    let m = rows-more (λ (s : Bor (List ℕ)). Some s.now) c.loop-record.record-iterator.rdr c.next.new.self.rdr fields default_config st.StartRecord (strip_bom c.args.file.now) inv.4 inv.6 inv.3 inv.5 inv.7 s.0 in
    let more : c.add_row.new.rows.items ≡ map (row_of_record columns) (inv.6 ++ fields ∷ []) =
    c.in-Ok-add_row.ensures.row
    ∙ ap (λ (cs : List Column). c.loop-record.rows.items ++ row_of_record cs fields ∷ []) c.items.ensures
    ∙ ap (λ (rs : List Row). rs ++ row_of_record columns fields ∷ []) inv.8
    ∙ sym (map-append (row_of_record columns) inv.6 (fields ∷ [])) in
    let fits : record_fault columns (length c.loop-record.rows.items + 1) fields ≡ None =
    subst (λ (cs : List Column). record_fault cs (length c.loop-record.rows.items + 1) fields ≡ None) c.items.ensures c.in-Ok-add_row.ensures.sound in
    let sound = one_record_more columns inv.6 fields (length c.loop-record.rows.items + 1) (as_many columns inv.6 c.loop-record.rows.items inv.8) inv.9 fits in
    (s.0.3 ∙ inv.0, inl s.1, s.3, s.0.2 ∙ inv.3, m.0, m.1, inv.6 ++ fields ∷ [], m.2, more, sound)

pub add_row-requires : goal.add_row-requires
add_row-requires c =
    let inv = c.loop-record.invariant in
    let columns = c.args.schema.now.columns in
    let fields = fields_of c.in-Ok.record in
    let s = rw (c.in-Some.is, c.in-Ok.is) at ((c.next.ensures.steps inv.2 inv.0).0 inv.1) in
    let m = rows-more (λ (s : Bor (List ℕ)). Some s.now) c.loop-record.record-iterator.rdr c.next.new.self.rdr fields default_config st.StartRecord (strip_bom c.args.file.now) inv.4 inv.6 inv.3 inv.5 inv.7 s.0 in
    let short = (so_far c.args.file.now (inv.6 ++ fields ∷ []) c.next.new.self.rdr.state m.0 m.2).1 in
    record {
      few = omega (arith, c.requires.short, short, length-append inv.6 (fields ∷ []), as_many columns inv.6 c.loop-record.rows.items inv.8);
      columns = subst (λ (cs : List Column). length cs < 2 ^ 32) (sym c.items.ensures) c.requires.columns;
    }

pub returns-in-Err-clause-refused : goal.returns-in-Err-clause-refused
returns-in-Err-clause-refused c =
    let inv = c.loop-record.invariant in
    let columns = c.args.schema.now.columns in
    let fields = fields_of c.in-Ok.record in
    let s = rw (c.in-Some.is, c.in-Ok.is) at ((c.next.ensures.steps inv.2 inv.0).0 inv.1) in
    let m = rows-more (λ (s : Bor (List ℕ)). Some s.now) c.loop-record.record-iterator.rdr c.next.new.self.rdr fields default_config st.StartRecord (strip_bom c.args.file.now) inv.4 inv.6 inv.3 inv.5 inv.7 s.0 in
    let all = (so_far c.args.file.now (inv.6 ++ fields ∷ []) c.next.new.self.rdr.state m.0 m.2).0 in
    let why = subst (λ (cs : List Column). RefusesAs (record_fault cs (length c.loop-record.rows.items + 1) fields) c.in-Err.error) c.items.ensures c.in-Err.ensures.refused in
    record_refused c.args.schema.now c.args.file.now inv.6 (left m.0) fields (length c.loop-record.rows.items + 1) c.in-Err.error all (as_many columns inv.6 c.loop-record.rows.items inv.8) inv.9 why

pub returns-clause-rows : goal.returns-clause-rows
returns-clause-rows c =
    let inv = c.loop-record.invariant in
    let s = rw c.in-None.is at ((c.next.ensures.steps inv.2 inv.0).0 inv.1) in
    let end = rows-end (λ (s : Bor (List ℕ)). Some s.now) c.loop-record.record-iterator.rdr c.next.new.self.rdr [] default_config inv.4 inv.3 inv.5 s in
    copied_all c.args.schema.now c.args.file.now inv.6 c.loop-record.rows.items (to_the_end c.args.file.now inv.6 c.loop-record.record-iterator.rdr.state inv.4 inv.7 end) inv.8 inv.9
