-- Each table of a legal history has columns.
use Rattle.tt_plain.specs.law.Lists.{Every}
use Rattle.tt_plain_laws.proofs.Inductions.{by_entries}
use Rattle.tt_plain.specs.stored.Empty.{empty_store}
use Rattle.tt_schema_laws.specs.Columns.{HasColumns, LegalHasColumns}
use Rattle.tt_schema_laws.proofs.Changes.{applied_has}
use Rattle.tt_schema_laws.proofs.Entries.{entry_makes}

pub legal_columns : LegalHasColumns
unfolding empty_store
legal_columns carried program history run time replayed =
    by_entries carried program history time (λ before store. Every HasColumns store.tables)
    (λ before store entry effect is all. applied_has store effect all (entry_makes carried program store entry effect all is.effected)) run tt replayed
