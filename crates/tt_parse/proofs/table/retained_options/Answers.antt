use Rattle.std.proofs.Common.{◌≡◌, [], false, refl}
use Rattle.tt_terminal.proofs.Steps.{passes_both, passes_left, passes_right, passes_noted, stops_first, stops_second, stops_here, stops_left, word_kind_is, passes_token, stops_token, is_of_one}
use Rattle.tt_terminal.proofs.Exits.{exits, within}
use Rattle.tt_sql.specs.grammar.Grammar.{Tok, Note, is_of}
use Rattle.tt_sql.specs.grammar.Combinators.{one, ◌▸◌, ◌∣◌}
use Rattle.tt_sql.specs.grammar.TokenKinds.{BY, CLOSE, CLUSTER, EQUAL, NAME, OPEN, SHORT_NUMBER, is_name, is_number}
use Rattle.tt_sql.specs.grammar.Written.{name_and_number, only_number}
use Rattle.tt_terminal.specs.Reading.{Fails, IsName, first_kind, first_place}
use Rattle.tt_parse.proofs.table.retained_options.Goals as goal

pub returns-in_err-rest : goal.returns-in_err-rest
returns-in_err-rest c = exits _ _ _ _ _ _ c.from_residual.result c.from_residual.ensures.1 (within (λ at f. stops_first f) _ c.in_err-rest.ensures)

pub returns-in_default : goal.returns-in_default
returns-in_default c =
    let fails : Fails [] (one EQUAL ▸ Tok SHORT_NUMBER is_number ▸ (one CLUSTER ▸ one BY ▸ one OPEN ▸ Tok NAME is_name ▸ one CLOSE ▸ Note name_and_number ∣ Note only_number)) c.args.rest (first_place c.in_ok-rest.rest) = stops_second c.in_ok-rest.ensures (stops_here (rw c.in_default.ensures refl) refl) in
    rw c.fault.ensures fails

pub returns-in_default-word : goal.returns-in_default-word
returns-in_default-word c = passes_both c.in_ok-rest.ensures (passes_token c.in-Some.ensures.takes c.in-Some.ensures.kind (passes_right (rw c.in_default-word.ensures refl) refl (passes_noted c.in-Some.ensures.takes.known (λ done. rw (c.in-Some.ensures.value_is, c.in-Some.ensures.place_is) refl))))

pub returns-in_default-word-2 : goal.returns-in_default-word-2
returns-in_default-word-2 c =
    let fails : Fails [] (one EQUAL ▸ Tok SHORT_NUMBER is_number ▸ (one CLUSTER ▸ one BY ▸ one OPEN ▸ Tok NAME is_name ▸ one CLOSE ▸ Note name_and_number ∣ Note only_number)) c.args.rest (first_place c.in-Some-word.rest) = stops_second c.in_ok-rest.ensures (stops_token c.in-Some.ensures.takes c.in-Some.ensures.kind (stops_left (word_kind_is c.in-Some-word.ensures) refl refl (stops_token c.in-Some-word.ensures.takes (is_of_one c.in-Some-word.ensures.kind) (stops_here (rw c.in_default-word-2.ensures refl) refl)))) in
    rw c.fault-in_default-word-2.ensures fails

pub returns-in_default-word-3 : goal.returns-in_default-word-3
returns-in_default-word-3 c =
    let fails : Fails [] (one EQUAL ▸ Tok SHORT_NUMBER is_number ▸ (one CLUSTER ▸ one BY ▸ one OPEN ▸ Tok NAME is_name ▸ one CLOSE ▸ Note name_and_number ∣ Note only_number)) c.args.rest (first_place c.in-Some-word-2.rest) = stops_second c.in_ok-rest.ensures (stops_token c.in-Some.ensures.takes c.in-Some.ensures.kind (stops_left (word_kind_is c.in-Some-word.ensures) refl refl (stops_token c.in-Some-word.ensures.takes (is_of_one c.in-Some-word.ensures.kind) (stops_token c.in-Some-word-2.ensures.takes (is_of_one c.in-Some-word-2.ensures.kind) (stops_here (rw c.in_default-word-3.ensures refl) refl))))) in
    rw c.fault-in_default-word-3.ensures fails

pub returns-in_default-2 : goal.returns-in_default-2
returns-in_default-2 c =
    let none : is_of NAME is_name (first_kind c.in-Some-word-3.rest) ≡ false = rw c.in_default-2.is at (c.in_ok-name.ensures) in
    let fails : Fails [] (one EQUAL ▸ Tok SHORT_NUMBER is_number ▸ (one CLUSTER ▸ one BY ▸ one OPEN ▸ Tok NAME is_name ▸ one CLOSE ▸ Note name_and_number ∣ Note only_number)) c.args.rest (first_place c.in-Some-word-3.rest) = stops_second c.in_ok-rest.ensures (stops_token c.in-Some.ensures.takes c.in-Some.ensures.kind (stops_left (word_kind_is c.in-Some-word.ensures) refl refl (stops_token c.in-Some-word.ensures.takes (is_of_one c.in-Some-word.ensures.kind) (stops_token c.in-Some-word-2.ensures.takes (is_of_one c.in-Some-word-2.ensures.kind) (stops_token c.in-Some-word-3.ensures.takes (is_of_one c.in-Some-word-3.ensures.kind) (stops_here (rw none refl) refl)))))) in
    rw c.fault-in_default-2.ensures fails

pub word-requires-4 : goal.word-requires-4
word-requires-4 c = let is : IsName c.in-Some-word-3.rest c.in-Some-2.name c.in-Some-2.rest = rw c.in-Some-2.is at (c.in_ok-name.ensures) in is.takes.known

pub returns-in_default-word-4 : goal.returns-in_default-word-4
returns-in_default-word-4 c =
    let is : IsName c.in-Some-word-3.rest c.in-Some-2.name c.in-Some-2.rest = rw c.in-Some-2.is at (c.in_ok-name.ensures) in
    let fails : Fails [] (one EQUAL ▸ Tok SHORT_NUMBER is_number ▸ (one CLUSTER ▸ one BY ▸ one OPEN ▸ Tok NAME is_name ▸ one CLOSE ▸ Note name_and_number ∣ Note only_number)) c.args.rest (first_place c.in-Some-2.rest) = stops_second c.in_ok-rest.ensures (stops_token c.in-Some.ensures.takes c.in-Some.ensures.kind (stops_left (word_kind_is c.in-Some-word.ensures) refl refl (stops_token c.in-Some-word.ensures.takes (is_of_one c.in-Some-word.ensures.kind) (stops_token c.in-Some-word-2.ensures.takes (is_of_one c.in-Some-word-2.ensures.kind) (stops_token c.in-Some-word-3.ensures.takes (is_of_one c.in-Some-word-3.ensures.kind) (stops_token is.takes is.kind (stops_here (rw c.in_default-word-4.ensures refl) refl))))))) in
    rw c.fault-in_default-word-4.ensures fails

pub returns : goal.returns
returns c =
    let is : IsName c.in-Some-word-3.rest c.in-Some-2.name c.in-Some-2.rest = rw c.in-Some-2.is at (c.in_ok-name.ensures) in
    passes_both c.in_ok-rest.ensures (passes_token c.in-Some.ensures.takes c.in-Some.ensures.kind (passes_left (word_kind_is c.in-Some-word.ensures) refl refl (passes_token c.in-Some-word.ensures.takes (is_of_one c.in-Some-word.ensures.kind) (passes_token c.in-Some-word-2.ensures.takes (is_of_one c.in-Some-word-2.ensures.kind) (passes_token c.in-Some-word-3.ensures.takes (is_of_one c.in-Some-word-3.ensures.kind) (passes_token is.takes is.kind (passes_token c.in-Some-word-4.ensures.takes (is_of_one c.in-Some-word-4.ensures.kind) (passes_noted c.in-Some-word-4.ensures.takes.known (λ done. rw (is.text_is, is.place_is, c.in-Some.ensures.value_is, c.in-Some.ensures.place_is) refl)))))))))
