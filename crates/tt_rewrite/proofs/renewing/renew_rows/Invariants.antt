use Rattle.std.proofs.Common.{◌≡◌, Bool, length, map}
use Rattle.tt_value.specs.declared.value.Row.{Row}
use Rattle.tt_rewrite.specs.Renewed.{RenewsRows}
use Rattle.tt_rewrite.specs.Sets.{becomes}
use Rattle.tt_rewrite.proofs.renewing.renew_rows.Given as goal

-- the rows so far are renewed
abbrev pub invariant-loop-row : goal.invariant-loop-row
invariant-loop-row l =
    (length l.yielded ≡ l.at)
    × ((taken : Row → Bool) → l.bits ≡ map taken l.fn.found.items → RenewsRows taken (becomes l.setting) l.setting.schema.now l.yielded l.fn.rows l.rows l.fn.missing l.missing)
