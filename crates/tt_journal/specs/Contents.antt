-- What a refusal tells, by the table of the code and by that of the texts.
use Rattle.std.specs.Prelude.{List, [], codes, flat_map, ℕ, ◌++◌, ◌∷◌, ◌≡◌}
use Rattle.tt_script.specs.declared.script.Script.{Script}
use Rattle.tt_history.specs.Refusals.{refusal_content, refusal_name, refusal_number}
use Rattle.tt_history.specs.declared.refusals.Content.{Content}
use Rattle.tt_history.specs.declared.reply.Refusal.{Refusal}
use Rattle.tt_plain.specs.text.RefusalTable.{Integer, Natural, SessionName, line, refusal_row}
use Rattle.tt_plain.specs.text.Replies.{content_text}
use Rattle.tt_history.specs.declared.refusals.Content.TheVariants as content
use Rattle.tt_plain.specs.text.RefusalTable as table

abbrev pub contents_of : Content → List table.Content
contents_of content.Nothing = []
contents_of (content.Number number) = Natural number ∷ []
contents_of (content.Signed number) = Integer number ∷ []
contents_of (content.Session session) = SessionName session ∷ []
contents_of (content.Pair first second) = Natural first ∷ Natural second ∷ []

-- each content behind a blank
abbrev pub contents_text : Script → Content → List ℕ
contents_text program told = flat_map (λ content. codes " " ++ content_text program content) (contents_of told)

-- each refusal has the same number, name and contents in both
abbrev pub TableIsOne : Type 0
TableIsOne = (refusal : Refusal) → refusal_row refusal ≡ line (refusal_number refusal) (refusal_name refusal) (contents_of (refusal_content refusal))
