-- `put_element` meets its contract: the line's three parts are put one behind another. Assumes nothing.
use Rattle.explanation.proofs.Elements.{held-length, front-room, names-room, tail-room, line-put}
use Rattle.explanation.proofs.put_element.Goals as goal

pub put-front-requires : goal.put-front-requires
put-front-requires c =
    let a = c.args in
    let front = c.element_front.ensures in
    (held-length front, front-room a.kind a.edition a.asked a.found a.day a.buffer.now c.requires.0 c.requires.1 _ front)

pub put_set_names-named-requires : goal.put_set_names-named-requires
put_set_names-named-requires c =
    let a = c.args in
    names-room a.kind a.edition a.asked a.found a.day _ c.requires.0 c.requires.1 _ c.element_front.ensures _ _ c.put-front.ensures.value c.put-front.ensures.buffer_after

pub put-requires : goal.put-requires
put-requires c =
    let a = c.args in
    let tail = c.element_end.ensures in
    (held-length tail, tail-room a.kind a.edition a.asked a.found a.day _ c.requires.0 c.requires.1 _ c.element_front.ensures _ _ c.put-front.ensures.value c.put-front.ensures.buffer_after _ _ c.put_set_names-named.ensures.value c.put_set_names-named.ensures.buffer_after _ tail)

pub returns : goal.returns
returns c =
    let a = c.args in
    let both = line-put a.kind a.edition a.asked a.found a.day _ c.requires.0 c.requires.1 _ c.element_front.ensures _ _ c.put-front.ensures.value c.put-front.ensures.buffer_after _ _ c.put_set_names-named.ensures.value c.put_set_names-named.ensures.buffer_after _ c.element_end.ensures _ _ c.put.ensures.value c.put.ensures.buffer_after in record { value = both.0; buffer_after = both.1 }
