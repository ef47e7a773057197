use Rattle.std.proofs.Common.{codes, refl}
use Rattle.tt_parse.proofs.Tables.{unit_apart, unit_there}
use Rattle.tt_parse.proofs.wait.unit_of.Goals as goal

pub returns-then-eq_ignore_ascii_case : goal.returns-then-eq_ignore_ascii_case
returns-then-eq_ignore_ascii_case c = unit_there c.args.word.now (codes "DAYS") _ refl refl refl c.if-eq_ignore_ascii_case.ensures.test

pub returns-then-eq_ignore_ascii_case-2 : goal.returns-then-eq_ignore_ascii_case-2
returns-then-eq_ignore_ascii_case-2 c = unit_there c.args.word.now (codes "HOURS") _ refl refl refl c.if-eq_ignore_ascii_case-2.ensures.test

pub returns-then-eq_ignore_ascii_case-3 : goal.returns-then-eq_ignore_ascii_case-3
returns-then-eq_ignore_ascii_case-3 c = unit_there c.args.word.now (codes "MINUTES") _ refl refl refl c.if-eq_ignore_ascii_case-3.ensures.test

pub returns-then-eq_ignore_ascii_case-4 : goal.returns-then-eq_ignore_ascii_case-4
returns-then-eq_ignore_ascii_case-4 c = unit_there c.args.word.now (codes "SECONDS") _ refl refl refl c.if-eq_ignore_ascii_case-4.ensures.test

pub returns-then-eq_ignore_ascii_case-5 : goal.returns-then-eq_ignore_ascii_case-5
returns-then-eq_ignore_ascii_case-5 c = unit_there c.args.word.now (codes "MILLISECONDS") _ refl refl refl c.if-eq_ignore_ascii_case-5.ensures.test

pub returns : goal.returns
returns c = rw (unit_apart c.args.word.now (codes "DAYS") refl c.if-eq_ignore_ascii_case.ensures.test, unit_apart c.args.word.now (codes "HOURS") refl c.if-eq_ignore_ascii_case-2.ensures.test, unit_apart c.args.word.now (codes "MINUTES") refl c.if-eq_ignore_ascii_case-3.ensures.test, unit_apart c.args.word.now (codes "SECONDS") refl c.if-eq_ignore_ascii_case-4.ensures.test, unit_apart c.args.word.now (codes "MILLISECONDS") refl c.if-eq_ignore_ascii_case-5.ensures.test) refl
