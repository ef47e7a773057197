-- The lines of a reply.
use Rattle.std.specs.Fmt.{signed_decimal}
use Rattle.std.specs.Prelude.{List, codes, decimal, flat_map, length, ℕ, ◌++◌}
use Rattle.tt_value.specs.declared.value.Row.{Row}
use Rattle.tt_value.specs.values.RowText.{row_text}
use Rattle.tt_script.specs.declared.script.Script.{Script}
use Rattle.tt_history.specs.declared.reply.Refusal.{Refusal}
use Rattle.tt_history.specs.declared.reply.Reply.{Reply}
use Rattle.tt_plain.specs.text.Journal.{line_feed, session_text}
use Rattle.tt_plain.specs.text.RefusalTable.{Content, Integer, Natural, RefusalRow, SessionName, refusal_row}
use Rattle.tt_history.specs.declared.reply.Reply.TheVariants as reply

abbrev pub content_text : Script → Content → List ℕ
content_text program (Natural n) = decimal n
content_text program (Integer z) = signed_decimal z
content_text program (SessionName session) = session_text program session

-- number, name and contents, with a blank in front of each but the first
abbrev pub row_of_refusal_text : Script → RefusalRow → List ℕ
row_of_refusal_text program row =
    decimal row.number ++ codes " " ++ row.name ++ flat_map (λ content. codes " " ++ content_text program content) row.contents

abbrev pub refusal_text : Script → Refusal → List ℕ
refusal_text program refusal = row_of_refusal_text program (refusal_row refusal)

abbrev pub row_line : Row → List ℕ
row_line row = codes ": " ++ row_text row ++ line_feed

abbrev pub count_line : ℕ → List ℕ → List ℕ
count_line count word = codes "= " ++ decimal count ++ word ++ line_feed

unfoldable pub reply_text : Script → Reply → List ℕ
reply_text program reply.Ok = codes "= ok" ++ line_feed
reply_text program (reply.Inserted count) = count_line count (codes " inserted")
reply_text program (reply.Updated count) = count_line count (codes " updated")
reply_text program (reply.Deleted count) = count_line count (codes " deleted")
reply_text program (reply.Rows rows) = flat_map row_line rows ++ count_line (length rows) (codes " rows")
reply_text program (reply.Refused r) = codes "! " ++ refusal_text program r ++ line_feed
reply_text program reply.Memory = codes "! memory" ++ line_feed
