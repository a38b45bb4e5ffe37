-- The bytes parse as what they were made of, since all of it is in its range.
use Rattle.std.proofs.Common.{◌≡◌, ap, ◌∙◌, arith, rules}
use Rattle.std.proofs.lemmas.Grind.{common_steps}
use Rattle.inet_frame.specs.Counted.{tcp_in}
use Rattle.inet_build.proofs.SegmentLemmas.{segment_parses}
use Rattle.inet_build.specs.Segment.{segment_bytes, IsBuildable}
use Rattle.inet_build.proofs.build.segment.Goals as goal

-- all of it is in its range
buildable : (c : goal.In_ok-extend_from_slice-3) → IsBuildable c.args.fields.now c.args.payload.now
buildable c = record {
  mac_len = omega arith;
  mac = c.put_ethernet_header.ensures.mac;
  client = omega (arith, c.ipv4_header.ensures.in_range);
  header = c.tcp_header.ensures.fits;
  mss = c.tcp_len-len.ensures.fits;
  payload_len = c.requires;
  payload = λ k. omega (arith, c.type_inv.payload k);
}

pub returns-clause-buildable : goal.returns-clause-buildable
returns-clause-buildable c = buildable c

pub returns-clause-parsed : goal.returns-clause-parsed
unfolding segment_bytes
returns-clause-parsed c =
    let items : c.extend_from_slice-3.new.self.items ≡ segment_bytes c.args.fields.now c.args.payload.now = first_of
    (search rules, grind (arith, common_steps)) in
    ap tcp_in items ∙ segment_parses c.args.fields.now c.args.payload.now (buildable c)
