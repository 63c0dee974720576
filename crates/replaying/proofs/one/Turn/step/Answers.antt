use Rattle.std.proofs.Common.{IsSome, ap, subst, sym, refl, arith, rules, length-take-le}
use Rattle.octets.proofs.BytesLaws.{apart}
use Rattle.event_log.specs.Told.{next_of}
use Rattle.text.specs.LentLaws.{wrote_page}
use Rattle.replaying.specs.OneLaws.{front_asked, held_answers, held_end, event_fits, event_ported, end_ported, packet_fits, one_config, one_event, one_more, one_end, one_bad}
use Rattle.replaying.proofs.one.Turn.step.Goals as goal

pub unreachable-requires : goal.unreachable-requires
unreachable-requires c =
    let t = c.args.self.now in apart (cc (subst IsSome c.in_default.is (event_ported t.style t.state t.s.now t.read t.last c.args.out.now t.wrote _ c.requires.read_in_bounds (front_asked _ _ _ _ _ c.is_none.ensures c.front.ensures) _ _ (ap next_of c.in-Event.is))))

pub slice_bounds-line-end : goal.slice_bounds-line-end
slice_bounds-line-end c = let t = c.args.self.now in packet_fits t.style t.state t.s.now t.read t.last c.args.out.now t.wrote _ c.requires.read_in_bounds (front_asked _ _ _ _ _ c.is_none.ensures c.front.ensures) _ _ (ap next_of c.in-Event.is) _ c.args.packet.now _ c.requires.packet_len (held_answers t.state _ c.in-Some.is _ _ _ _ c.answer-answer.ensures)

pub slice_bounds-line-end-in-Event : goal.slice_bounds-line-end-in-Event
slice_bounds-line-end-in-Event c = let t = c.args.self.now in sym (length-take-le _ _ (packet_fits t.style t.state t.s.now t.read t.last c.args.out.now t.wrote _ c.requires.read_in_bounds (front_asked _ _ _ _ _ c.is_none.ensures c.front.ensures) _ _ (ap next_of c.in-Event.is) _ c.args.packet.now _ c.requires.packet_len (held_answers t.state _ c.in-Some.is _ _ _ _ c.answer-answer.ensures)))

pub overflow_add-self-in-Event : goal.overflow_add-self-in-Event
overflow_add-self-in-Event c = let t = c.args.self.now in omega (arith, event_fits t.style t.state t.s.now t.read t.last c.args.out.now t.wrote _ c.requires.read_in_bounds (front_asked _ _ _ _ _ c.is_none.ensures c.front.ensures) _ _ (ap next_of c.in-Event.is), c.requires, c.well_formed, c.fits-self)

pub unwrap-port-requires : goal.unwrap-port-requires
unwrap-port-requires c = let t = c.args.self.now in end_ported t.style t.state t.s.now t.read t.last c.args.out.now t.wrote _ c.requires.read_in_bounds (front_asked _ _ _ _ _ c.is_none.ensures c.front.ensures) (ap next_of c.in-End.is)

pub returns-in-Config : goal.returns-in-Config
returns-in-Config c = let t = c.args.self.now in record { style = refl; window = refl; last = refl; field = one_config t.style t.state t.s.now t.read t.last c.args.out.now t.wrote _ c.requires.read_in_bounds (front_asked _ _ _ _ _ c.is_none.ensures c.front.ensures) _ _ (ap next_of c.in-Config.is) c.open.ensures }

pub returns-in-Some : goal.returns-in-Some
returns-in-Some c = let t = c.args.self.now in record { style = refl; window = refl; last = refl; field = one_event t.style t.state t.s.now t.read t.last c.args.out.now t.wrote _ c.requires.read_in_bounds (front_asked _ _ _ _ _ c.is_none.ensures c.front.ensures) _ _ (ap next_of c.in-Event.is) _ c.args.packet.now _ c.requires.packet_len (held_answers t.state _ c.in-Some.is _ _ _ _ c.answer-answer.ensures) _ _ _ (wrote_page c.line.new.page c.line.ensures.0 (search rules)) refl }

pub returns-in-More : goal.returns-in-More
returns-in-More c = let t = c.args.self.now in record { style = refl; window = refl; last = refl; field = one_more t.style t.state t.s.now t.read t.last c.args.out.now t.wrote _ c.requires.read_in_bounds (front_asked _ _ _ _ _ c.is_none.ensures c.front.ensures) (ap next_of c.in-More.is) }

pub returns-in-End : goal.returns-in-End
returns-in-End c = let t = c.args.self.now in record { style = refl; window = refl; last = refl; field = one_end t.style t.state t.s.now t.read t.last c.args.out.now t.wrote _ c.requires.read_in_bounds (front_asked _ _ _ _ _ c.is_none.ensures c.front.ensures) _ _ (ap next_of c.in-End.is) (held_end t.state _ c.unwrap-port.ensures _ _ _ _ _ (wrote_page c.last_line.new.page c.last_line.ensures.0 (search rules))) }

pub returns-in-Bad : goal.returns-in-Bad
returns-in-Bad c = let t = c.args.self.now in record { style = refl; window = refl; last = refl; field = one_bad t.style t.state t.s.now t.read t.last c.args.out.now t.wrote _ c.requires.read_in_bounds (front_asked _ _ _ _ _ c.is_none.ensures c.front.ensures) _ _ (ap next_of c.in-Bad.is) (wrote_page c.bad_line.new.page c.bad_line.ensures.0 (search rules)) }
