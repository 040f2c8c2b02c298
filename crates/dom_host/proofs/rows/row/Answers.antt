use Rattle.dom_host.proofs.Unbuilt.{unbuilt}
use Rattle.dom_host.proofs.rows.row.Goals as goal

pub returns-in-NodePrototypeInsertBefore : goal.returns-in-NodePrototypeInsertBefore
returns-in-NodePrototypeInsertBefore c = rw c.in-NodePrototypeInsertBefore.is c.insert_before.ensures

pub returns-in-NodePrototypeReplaceChild : goal.returns-in-NodePrototypeReplaceChild
returns-in-NodePrototypeReplaceChild c = rw c.in-NodePrototypeReplaceChild.is c.replace_child.ensures

pub returns-in-NodePrototypeRemoveChild : goal.returns-in-NodePrototypeRemoveChild
returns-in-NodePrototypeRemoveChild c = rw c.in-NodePrototypeRemoveChild.is c.remove_child.ensures

pub returns-in-NodePrototypeAppendChild : goal.returns-in-NodePrototypeAppendChild
returns-in-NodePrototypeAppendChild c = rw c.in-NodePrototypeAppendChild.is c.append_child.ensures

pub returns-in-NodePrototypeHasChildNodes : goal.returns-in-NodePrototypeHasChildNodes
returns-in-NodePrototypeHasChildNodes c = rw c.in-NodePrototypeHasChildNodes.is (c.has_child_nodes.ensures c.args.args.now)

pub returns-in-NodePrototypeGetAttribute : goal.returns-in-NodePrototypeGetAttribute
returns-in-NodePrototypeGetAttribute c = rw c.in-NodePrototypeGetAttribute.is c.get.ensures

pub returns-in-NodePrototypeSetAttribute : goal.returns-in-NodePrototypeSetAttribute
returns-in-NodePrototypeSetAttribute c = rw c.in-NodePrototypeSetAttribute.is c.set.ensures

pub returns-in-NodePrototypeRemoveAttribute : goal.returns-in-NodePrototypeRemoveAttribute
returns-in-NodePrototypeRemoveAttribute c = rw c.in-NodePrototypeRemoveAttribute.is c.remove.ensures

pub returns-in-NodePrototypeHasAttribute : goal.returns-in-NodePrototypeHasAttribute
returns-in-NodePrototypeHasAttribute c = rw c.in-NodePrototypeHasAttribute.is c.has.ensures

pub returns-in-NodePrototypeAddEventListener : goal.returns-in-NodePrototypeAddEventListener
returns-in-NodePrototypeAddEventListener c = rw c.in-NodePrototypeAddEventListener.is c.add_listener.ensures

pub returns-in-NodePrototypeRemoveEventListener : goal.returns-in-NodePrototypeRemoveEventListener
returns-in-NodePrototypeRemoveEventListener c = rw c.in-NodePrototypeRemoveEventListener.is c.remove_listener.ensures

pub returns-in-NodePrototypeGetElementById : goal.returns-in-NodePrototypeGetElementById
returns-in-NodePrototypeGetElementById c = rw c.in-NodePrototypeGetElementById.is c.get_by_id.ensures

pub returns-in-NodePrototypeCreateElement : goal.returns-in-NodePrototypeCreateElement
returns-in-NodePrototypeCreateElement c = rw c.in-NodePrototypeCreateElement.is c.create_element.ensures

pub returns-in-NodePrototypeCreateTextNode : goal.returns-in-NodePrototypeCreateTextNode
returns-in-NodePrototypeCreateTextNode c = rw c.in-NodePrototypeCreateTextNode.is c.create_text.ensures

pub returns-in-NodePrototypeCreateComment : goal.returns-in-NodePrototypeCreateComment
returns-in-NodePrototypeCreateComment c = rw c.in-NodePrototypeCreateComment.is c.create_comment.ensures

pub returns-in-NodePrototypeCreateEvent : goal.returns-in-NodePrototypeCreateEvent
returns-in-NodePrototypeCreateEvent c = rw c.in-NodePrototypeCreateEvent.is c.create_event.ensures

pub returns-in-EventPrototypeInitEvent : goal.returns-in-EventPrototypeInitEvent
returns-in-EventPrototypeInitEvent c = rw c.in-EventPrototypeInitEvent.is c.init_event.ensures

pub returns-in-EventPrototypeStopPropagation : goal.returns-in-EventPrototypeStopPropagation
returns-in-EventPrototypeStopPropagation c = rw c.in-EventPrototypeStopPropagation.is (c.stop_propagation.ensures c.args.args.now)

pub returns-in-EventPrototypePreventDefault : goal.returns-in-EventPrototypePreventDefault
returns-in-EventPrototypePreventDefault c = rw c.in-EventPrototypePreventDefault.is (c.prevent_default.ensures c.args.args.now)

pub returns-in_default : goal.returns-in_default
returns-in_default c =
    unbuilt c.args.which c.args.this.now c.args.args.now c.args.state.now c.raise.new.self c.raise.result
    c.in_default.not-NodePrototypeInsertBefore c.in_default.not-NodePrototypeReplaceChild c.in_default.not-NodePrototypeRemoveChild c.in_default.not-NodePrototypeAppendChild c.in_default.not-NodePrototypeHasChildNodes c.in_default.not-NodePrototypeGetAttribute c.in_default.not-NodePrototypeSetAttribute c.in_default.not-NodePrototypeRemoveAttribute c.in_default.not-NodePrototypeHasAttribute c.in_default.not-NodePrototypeAddEventListener c.in_default.not-NodePrototypeRemoveEventListener c.in_default.not-NodePrototypeGetElementById c.in_default.not-NodePrototypeCreateElement c.in_default.not-NodePrototypeCreateTextNode c.in_default.not-NodePrototypeCreateComment c.in_default.not-NodePrototypeCreateEvent c.in_default.not-EventPrototypeInitEvent c.in_default.not-EventPrototypeStopPropagation c.in_default.not-EventPrototypePreventDefault
    c.raise.ensures
