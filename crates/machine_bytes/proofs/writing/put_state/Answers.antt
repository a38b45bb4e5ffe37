use Rattle.machine_bytes.proofs.writing.put_state.Goals as goal

pub returns-clause-in_range : goal.returns-clause-in_range
returns-clause-in_range c = record {
  hart = record {
    pc = c.put_word.ensures.in_range;
    count = c.put_words.ensures.count;
    x = c.put_words.ensures.in_range;
    address = c.put_reservation.ensures.in_range;
  };
  csrs = c.put_csrs.ensures.in_range;
  net = c.put_network.ensures.in_range;
  net_queues = c.put_network.ensures.count;
  receives = c.put_network.ensures.receives;
  sends = c.put_network.ensures.sends;
  count = c.put_neighbour.ensures.count;
  neighbour = c.put_neighbour.ensures.bytes;
  block = c.put_block.ensures.in_range;
  block_queues = c.put_block.ensures.count;
  serves = c.put_block.ensures.serves;
}
