-- 10, UnknownFile: no staged file has the name.
use Rattle.std.specs.Prelude.{List, Option, [], bytes_eq, find, ℕ}
use Rattle.tt_script.specs.declared.script.FileText.{FileText}
use Rattle.tt_script.specs.declared.script.Script.{Script}
use Rattle.tt_history.specs.declared.reply.Refusal.{Refusal}
use Rattle.tt_plain.specs.asked.Asked.{Asked, request_asked}
use Rattle.tt_plain.specs.asked.Request.{Request, Writes}
use Rattle.tt_plain.specs.Places.{where_none}
use Rattle.tt_plain.specs.refusal.{at_leftmost}
use Rattle.tt_sql.specs.declared.change.Dml.TheVariants as dml
use Rattle.tt_history.specs.declared.reply.Refusal.TheVariants as refusal

-- the staged file of a name
abbrev pub file_named : Script → List ℕ → Option FileText
file_named program name = find (λ (file : FileText). bytes_eq file.name name) program.files

abbrev pub missing_files : Asked → Request → List ℕ
missing_files asked (Writes (dml.Copy c)) = where_none c.file.place (file_named asked.program c.file.text)
missing_files asked _ = []

abbrev pub unknown_file : Asked → Option Refusal
unknown_file asked = at_leftmost refusal.UnknownFile (missing_files asked (request_asked asked))
