use Rattle.std.proofs.Common.{refl, ◌∙◌, arith}
use Rattle.hardware.proofs.Laying.{absent, aside_there, aside_new, with_there, with_absent}
use Rattle.hardware.proofs.overlay.set_aside.Goals as goal

pub push-requires : goal.push-requires
push-requires g c =
    let room = c.requires.room (absent c.args.word c.as_slice.result.now c.args.log.now.places.items c.place_of.result
    c.as_slice.ensures.value c.place_of.ensures.value c.in-None.is) in (omega arith, room)

pub returns-in-Some-clause-places : goal.returns-in-Some-clause-places
returns-in-Some-clause-places g c =
    with_there c.args.word c.in-Some.place c.as_slice.result.now c.args.log.now.places.items c.place_of.result
    c.as_slice.ensures.value c.place_of.ensures.value c.in-Some.is

pub returns-in-Some-clause-words : goal.returns-in-Some-clause-words
returns-in-Some-clause-words g c = λ ws.
    aside_there c.args.word c.as_slice.result.now c.args.log.now.places.items c.args.log.now.values.now ws c.args.value c.place_of.result
    c.as_slice.ensures.value c.place_of.ensures.value c.in-Some.place c.store.new.values c.in-Some.is
    c.args.log.now.within c.store.ensures

pub returns-in-None-clause-places : goal.returns-in-None-clause-places
returns-in-None-clause-places g c =
    c.push.ensures.places ∙ with_absent c.args.word c.as_slice.result.now c.args.log.now.places.items c.place_of.result
    c.as_slice.ensures.value c.place_of.ensures.value c.in-None.is

pub returns-in-None-clause-words : goal.returns-in-None-clause-words
returns-in-None-clause-words g c =
    let room = c.requires.room (absent c.args.word c.as_slice.result.now c.args.log.now.places.items c.place_of.result
    c.as_slice.ensures.value c.place_of.ensures.value c.in-None.is) in
    λ ws. aside_new c.args.word c.as_slice.result.now c.args.log.now.places.items c.args.log.now.values.now ws c.args.value c.place_of.result
    c.as_slice.ensures.value c.place_of.ensures.value _ c.push.new.self.places.items c.push.new.self.values.now c.in-None.is
    refl room.1 c.push.ensures.places c.push.ensures.values
