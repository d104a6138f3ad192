-- Messages sent one after another.
use Rattle.std.proofs.Common.{◌≡◌, false, List, [], ◌∷◌, map, append_assoc}
use Rattle.std.proofs.lemmas.List.{append-nil}
use Rattle.wire_msg.specs.Envelope.{Envelope}
use Rattle.sim_net.specs.Network.{Network, after_sent, after_all_sent}

pub sent_first : (net : Network) (m : Envelope) (ms : List Envelope) → after_all_sent (after_sent net m) ms ≡ after_all_sent net (m ∷ ms)
sent_first net m ms = λ i. record {
  sent = append_assoc net.sent (m ∷ []) ms i;
  lost = append_assoc net.lost (false ∷ []) (map (λ (x : Envelope). false) ms) i;
  cuts = net.cuts;
}

pub none_sent : (net : Network) → after_all_sent net [] ≡ net
none_sent net = λ i. record { sent = append-nil net.sent i; lost = append-nil net.lost i; cuts = net.cuts }
