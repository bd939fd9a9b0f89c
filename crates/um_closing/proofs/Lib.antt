-- The state that is read off the sites. Numbers shows what such lists have at each index, which the code stands on too. Agreed shows that the
-- state agrees with the machine's last state, and Same that it depends only on the sites that there are. Priorities shows that no step but a
-- start changes the priority of a thread, NotedSteps that each step leaves the machine's priorities in the scheduler's cell, and NotedRuns puts
-- whole runs together.
mod Numbers
mod Agreed
mod Same
mod Priorities
mod NotedSteps
mod NotedRuns
