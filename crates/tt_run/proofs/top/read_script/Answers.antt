use Rattle.std.proofs.Common.{◌≡◌, List, [], ℕ, Result, Ok, Err}
use Rattle.std.specs.Prelude.{IfOk}
use Rattle.tt_script.specs.declared.script.Script.{Script}
use Rattle.tt_script.specs.declared.ReadError.{ReadError}
use Rattle.tt_script.specs.Answers.{Answers}
use Rattle.tt_script.specs.Script.{answer_of}
use Rattle.tt_run.proofs.Texts.{no_turns, script_text}
use Rattle.tt_run.proofs.top.read_script.Goals as goal

text : (bytes : List ℕ) (r : Result Script ReadError) → Answers (λ program. program) r (answer_of bytes) → IfOk r (λ program. program.text ≡ bytes)
text bytes (Ok program) reads = script_text bytes program reads
text bytes (Err e) reads = tt

pub returns-clause-text : goal.returns-clause-text
returns-clause-text c = text c.args.bytes.items c.read.result c.read.ensures

turns : (bytes : List ℕ) (r : Result Script ReadError) → Answers (λ program. program) r (answer_of bytes) → IfOk r (λ program. program.turns ≡ [])
turns bytes (Ok program) reads = no_turns bytes program reads
turns bytes (Err e) reads = tt

pub returns-clause-turns : goal.returns-clause-turns
returns-clause-turns c = turns c.args.bytes.items c.read.result c.read.ensures
