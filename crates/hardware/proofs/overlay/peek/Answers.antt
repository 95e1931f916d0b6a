use Rattle.hardware.proofs.Laying.{peek_there, peek_absent}
use Rattle.hardware.proofs.overlay.peek.Goals as goal

pub returns-in-Some : goal.returns-in-Some
returns-in-Some g c =
    peek_there c.args.word c.as_slice.result.now c.args.log.now.places.items c.args.log.now.values.now c.args.words.now c.load.result c.place_of.result
    c.as_slice.ensures.value c.place_of.ensures.value c.in-Some.place c.in-Some.is
    c.args.log.now.within c.requires c.load.ensures

pub returns-in-None : goal.returns-in-None
returns-in-None g c =
    peek_absent c.args.word c.as_slice.result.now c.args.log.now.places.items c.args.log.now.values.now c.args.words.now c.load-in-None.result c.place_of.result
    c.as_slice.ensures.value c.place_of.ensures.value c.in-None.is c.load-in-None.ensures
