-- Each part by its pass.
use Rattle.st_world.proofs.laws.every_run_holds.Goals as goal
use Rattle.st_world.proofs.EveryRun.{reads_prefix, ends_whole, stays_read, credits_add_up, hops_balanced, links_agree}

pub returns-clause-holds : goal.returns-clause-holds
returns-clause-holds c =
    λ c events w run. record {
      bytes_in_order = reads_prefix c events w run;
      ends_are_complete = ends_whole c events w run;
      credits_add_up = credits_add_up c events w run;
      balances_add_up = hops_balanced c events w run;
      neighbours_agree = links_agree c events w run;
    }

pub returns-clause-stays : goal.returns-clause-stays
returns-clause-stays c = stays_read
