-- `domains::domain_ok` asks for the length, then enters the domain where it is new. Assumes nothing.
use mathlib.Core.Path.{sym, ◌∙◌}
use Rattle.sorted.proofs.Order.{clash}
use Rattle.store.specs.Entries.{part, kind_at}
use Rattle.domains.proofs.Keys as keys
use Rattle.domains.proofs.domain_ok.Goals as goal

-- first, so that rt names it where an AID too many is taken
pub returns : goal.returns
returns c =
    record {
      entry_says = keys.enter_says c.args.s.now c.args.at c.args.table.now c.requires.domains_is c.args.next
          (part c.args.s.now c.args.from c.args.next) c.requires.entry_at.0
          (sym c.length_ok.ensures ∙ c.if-not-length_ok.false) c.enter.new.table c.enter.result c.enter.ensures;
      domains_is_2 = keys.enter_table c.args.s.now c.args.at c.args.table.now c.requires.domains_is c.args.next
          (part c.args.s.now c.args.from c.args.next) c.requires.entry_at.0
          (sym c.length_ok.ensures ∙ c.if-not-length_ok.false) c.enter.new.table c.enter.result c.enter.ensures;
    }

pub enter-requires : goal.enter-requires
enter-requires c = let all = keys.enter_ready c.args.s.now c.args.at c.args.table.now c.requires.domains_is c.args.next
    (part c.args.s.now c.args.from c.args.next) c.requires.entry_at.0
    (sym c.length_ok.ensures ∙ c.if-not-length_ok.false) c.requires.s_len_bound in record { sorted = all.0; table_in_bounds = all.1 }

pub returns-then-not-length_ok : goal.returns-then-not-length_ok
returns-then-not-length_ok c =
    record {
      entry_says = keys.short_says c.args.s.now c.args.at c.args.table.now c.requires.domains_is
          (kind_at c.args.s.now c.args.at) (part c.args.s.now c.args.from c.args.next)
          (sym c.length_ok.ensures ∙ c.if-not-length_ok.true);
      domains_is_2 = λ e. absurd (clash (sym e));
    }
