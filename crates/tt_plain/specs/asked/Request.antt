-- What a statement asks for, with its parts: the names of it, which stand where the statement's tree does.
pub use Rattle.tt_sql.specs.asked.Request.{as_read, request_in, request_of}
pub use Rattle.tt_sql.specs.declared.request.Definition.{Definition}
pub use Rattle.tt_sql.specs.declared.request.Definition.TheVariants.{Alters, Clones, Creates, Drops, Truncates, Undrops}
pub use Rattle.tt_sql.specs.declared.request.Request.{Request}
pub use Rattle.tt_sql.specs.declared.request.Request.TheVariants.{Begins, Commits, Defines, Reads, RollsBack, Tells, Unreadable, Waits, Writes}
pub use Rattle.tt_sql.specs.declared.request.Telling.{Telling}
pub use Rattle.tt_sql.specs.declared.request.Telling.TheVariants.{Explains, Gauges, Measures, Shows}
