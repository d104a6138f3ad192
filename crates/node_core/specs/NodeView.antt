-- The node that an event comes to.
use Rattle.node_core.specs.declared.node_view.NodeView.{NodeView}
use Rattle.node_core.specs.State.{State, state_of}

-- the state of the node
abbrev pub state_at : NodeView → State
state_at node_view = state_of node_view.vector.now
