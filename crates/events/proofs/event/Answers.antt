use mathlib.Core.Path.{refl, sym, ◌∙◌}
use Rattle.events.specs.declared.EventKind.TheVariants as kind
use Rattle.events.proofs.ByKind.{on-machine, noticed, signal-mask, signal-effect, notice-mask, notice-effect, effect-by-kind, pin-effect}
use Rattle.model.specs.Effect.{effect_of}
use Rattle.events.proofs.event.Goals as goal

pub signal-requires : goal.signal-requires
signal-requires c = signal-mask _ _ (sym c.in-Signal.is ∙ c.kind_of-kind.ensures)

pub notice-requires : goal.notice-requires
notice-requires c = notice-mask _ _ (sym c.in-Notice.is ∙ c.kind_of-kind.ensures)

pub returns-in-Press : goal.returns-in-Press
unfolding effect_of
returns-in-Press c = effect-by-kind _ _ _ kind.Press (sym c.in-Press.is ∙ c.kind_of-kind.ensures) (on-machine _ _ _ _ _ refl c.scalars.ensures c.press.ensures)

pub returns-in-Release : goal.returns-in-Release
unfolding effect_of
returns-in-Release c = effect-by-kind _ _ _ kind.Release (sym c.in-Release.is ∙ c.kind_of-kind.ensures) (on-machine _ _ _ _ _ refl c.scalars-in-Release.ensures c.release.ensures)

pub returns-in-Signal : goal.returns-in-Signal
unfolding effect_of
returns-in-Signal c = signal-effect _ _ _ _ (sym c.in-Signal.is ∙ c.kind_of-kind.ensures) (on-machine _ _ _ _ _ refl c.scalars-in-Signal.ensures c.signal.ensures)

pub returns-in-Pin : goal.returns-in-Pin
unfolding effect_of
returns-in-Pin c = effect-by-kind _ _ _ (kind.Pin _) (sym c.in-Pin.is ∙ c.kind_of-kind.ensures) (pin-effect _ _ _ (on-machine _ _ _ _ _ refl c.scalars-in-Pin.ensures c.pin.ensures))

pub returns-in-Notice : goal.returns-in-Notice
unfolding effect_of
returns-in-Notice c =
    notice-effect _ _ _ _ (sym c.in-Notice.is ∙ c.kind_of-kind.ensures)
    (noticed _ _ _ _ c.scalars-in-Notice.ensures c.notice.ensures)

pub returns-in-General : goal.returns-in-General
unfolding effect_of
returns-in-General c = effect-by-kind _ _ _ (kind.General _) (sym c.in-General.is ∙ c.kind_of-kind.ensures) c.general.ensures

pub returns-in-Ticks : goal.returns-in-Ticks
unfolding effect_of
returns-in-Ticks c =
    effect-by-kind _ _ _ (kind.Ticks _) (sym c.in-Ticks.is ∙ c.kind_of-kind.ensures)
    (on-machine _ _ _ _ _ refl c.scalars-in-Ticks.ensures c.ticks.ensures)
