-- 19, InTransaction: BEGIN in an open transaction.
use Rattle.std.specs.Prelude.{Bool, Option, false}
use Rattle.tt_history.specs.declared.reply.Refusal.{Refusal}
use Rattle.tt_plain.specs.declared.store.PlainSession.{PlainSession}
use Rattle.tt_plain.specs.asked.Asked.{Asked, request_asked, state_asked}
use Rattle.tt_plain.specs.asked.Request.{Begins, Request}
use Rattle.tt_plain.specs.refusal.{where_true}
use Rattle.tt_history.specs.declared.reply.Refusal.TheVariants as refusal

abbrev pub begins_again : PlainSession → Request → Bool
begins_again state Begins = state.transaction
begins_again state _ = false

abbrev pub in_transaction : Asked → Option Refusal
in_transaction asked = where_true (begins_again (state_asked asked) (request_asked asked)) refusal.InTransaction
