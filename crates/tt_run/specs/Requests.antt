-- What is asked of a catalog next.
use Rattle.std.specs.Prelude.{Result, ℕ}
use Rattle.tt_sql.specs.declared.statement.Statement.{Statement}
use Rattle.tt_plain.specs.asked.Turns.{carried_out}
use Rattle.tt_built.specs.Built.{built}
use Rattle.tt_state.specs.Chronicle.{Chronicle, IsNextRead}

-- The session's next text was read as this. Where a part of it is not carried out, it is refused as it stands.
abbrev pub IsNextAsked : Chronicle → ℕ → ℕ → Result Statement ℕ → Type 0
IsNextAsked old session index read = IsNextRead old session index (carried_out built read)
