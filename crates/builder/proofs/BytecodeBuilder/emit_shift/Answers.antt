-- `builder::BytecodeBuilder::emit_shift` meets its contract: the variant, and then the room that is reserved, decide. Assumes nothing.
use Rattle.std.proofs.Common.{refl, sym, ◌∙◌, rules}
use Rattle.builder.proofs.Room.{emitted, refused_room, judged, refused_variant}
use Rattle.builder.proofs.BytecodeBuilder.emit_shift.Goals as goal

pub returns-then-bad_variant : goal.returns-then-bad_variant
returns-then-bad_variant c = refused_variant _ _ _ _ _ c.refuse.ensures (sym c.bad_variant.ensures ∙ c.if-bad_variant.true)

pub returns-in_err-next : goal.returns-in_err-next
returns-in_err-next c =
    judged _ _ _ _ _ _ _ (sym c.bad_variant.ensures ∙ c.if-bad_variant.false) refl
    (refused_room _ _ _ 11 refl c.reserve.ensures.answer c.in_err-next.was (search rules))

pub returns : goal.returns
returns c =
    judged _ _ _ _ _ _ _ (sym c.bad_variant.ensures ∙ c.if-bad_variant.false) refl
    (emitted _ _ _ 11 refl c.reserve.ensures.answer c.in_ok-next.was c.put_shift.ensures)
